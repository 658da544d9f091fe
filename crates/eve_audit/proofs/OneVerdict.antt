-- Bytes have one verdict.
use Rattle.std.proofs.Common.{◌≡◌, ℕ, inl, inr, List, Some, refl, sym, ap, subst, ◌∙◌, arith}
use Rattle.std.specs.Prelude.{if◌then◌else◌, ◌==◌, Option, true, false}
use Rattle.eve_grammar.specs.Trace.{Trace}
use Rattle.eve_grammar.specs.FrameOrder.{Spells}
use Rattle.eve_views.specs.Code.{code_number, phase_of}
use Rattle.eve_views.specs.Form.{IsUpTo, Precedes}
use Rattle.eve_views.specs.declared.fault.Code.{Code}
use Rattle.eve_views.specs.declared.fault.Code.TheVariants as code
use Rattle.eve_views.specs.declared.fault.Fault.{Fault}
use Rattle.eve_audit.specs.declared.verdict.Summary.{Summary}
use Rattle.eve_audit.specs.declared.verdict.Verdict.{Verdict}
use Rattle.eve_audit.specs.declared.verdict.Verdict.TheVariants.{Yes, No}
use Rattle.eve_audit.specs.Verdict.{IsFirst, IsSummary, IsVerdict}
use Rattle.eve_audit.proofs.Sections.{LiesIn, IsLaidOut}
use Rattle.eve_audit.proofs.SectionPlaces.{one_section}
use Rattle.eve_audit.proofs.FaultPlaces.{is_inside, IsPlaced, outside, inside, placed}

abbrev fault : Code → ℕ → Option ℕ → Fault
fault c at replica = record { code = c; offset = at; replica = replica }

abbrev summary : ℕ → ℕ → ℕ → Summary
summary replicas batches committed = record { replicas = replicas; batches = batches; committed = committed }

-- the code with this number
pub code_with : ℕ → Code
code_with n =
    if n == 1 then code.Length
    else if n == 2 then code.Magic
    else if n == 3 then code.Head
    else if n == 4 then code.Frame
    else if n == 5 then code.Body
    else if n == 10 then code.SameName
    else if n == 11 then code.SameRequest
    else if n == 20 then code.Attempt
    else if n == 21 then code.Certificate
    else if n == 22 then code.Access
    else if n == 23 then code.WorkerOrder
    else if n == 24 then code.Commit
    else if n == 25 then code.Rollback
    else if n == 26 then code.Transfer
    else if n == 30 then code.Record
    else if n == 40 then code.Version
    else if n == 41 then code.Value
    else if n == 50 then code.Restore
    else if n == 60 then code.Token
    else if n == 70 then code.TwoVotes
    else if n == 71 then code.TwoDecisions
    else if n == 72 then code.NoMajority
    else if n == 73 then code.RollbackNoMajority
    else if n == 74 then code.TransferNoMajority
    else if n == 80 then code.Outcome
    else if n == 81 then code.TransferBalances
    else code.Reply

pub with_its_number : (c : Code) → code_with (code_number c) ≡ c
unfolding code_with
with_its_number code.Length = refl
with_its_number c = refl

one_number : (c d : Code) → code_number c ≡ code_number d → c ≡ d
one_number c d same = sym (with_its_number c) ∙ ap code_with same ∙ with_its_number d

-- faults that precede one another stand at one place under one code
both_ways : (f g : Fault) → Precedes f g → Precedes g f → (f.offset ≡ g.offset) × (f.code ≡ g.code)
both_ways f g (inl a) (inl b) = absurd (omega (arith, a, b))
both_ways f g (inl a) (inr b) = absurd (omega (arith, a, b.0))
both_ways f g (inr a) (inl b) = absurd (omega (arith, a.0, b))
both_ways f g (inr a) (inr b) = by a.1 b.1
  where
    by : IsUpTo f g → IsUpTo g f → (f.offset ≡ g.offset) × (f.code ≡ g.code)
    by (inl c) (inl d) = absurd (omega (arith, c, d))
    by (inl c) (inr d) = absurd (omega (arith, c, d.0))
    by (inr c) (inl d) = absurd (omega (arith, c.0, d))
    by (inr c) (inr d) = (c.0, one_number f.code g.code (omega (arith, c.1, d.1)))

module _ (laid : (t : Trace) → IsLaidOut t) (spelled_once : (bytes : List ℕ) (t u : Trace)
    → Spells bytes t → Spells bytes u → t ≡ u) (bytes : List ℕ) where
  -- and so in one section
  one_replica : (f g : Fault) → f.offset ≡ g.offset → f.code ≡ g.code → IsPlaced bytes f → IsPlaced bytes g → f.replica
      ≡ g.replica
  one_replica f g at same (outside one phase) (outside other phase_too) = one ∙ sym other
  one_replica f g at same (outside one phase) (inside u d spells other lies phase_too) =
      absurd (apart (sym phase ∙ ap (λ (c : Code). is_inside (phase_of c)) same ∙ phase_too))
    where
      apart : false ≡ true → ⊥
      apart e = cc
  one_replica f g at same (inside t e spells one lies phase) (outside other phase_too) =
      absurd (apart (sym phase ∙ ap (λ (c : Code). is_inside (phase_of c)) same ∙ phase_too))
    where
      apart : true ≡ false → ⊥
      apart e = cc
  one_replica f g at same (inside t e spells one lies phase) (inside u d other_spells other other_lies phase_too) =
      let own : LiesIn t d f.offset =
      subst (LiesIn t d) (sym at)
      (subst (λ (x : Trace). LiesIn x d g.offset) (spelled_once bytes u t other_spells spells) other_lies) in
      one ∙ ap (λ (k : ℕ). Some k) (one_section t (laid t).parts e d f.offset lies own) ∙ sym other

  one_fault : (f g : Fault) → IsFirst bytes f → IsFirst bytes g → f ≡ g
  one_fault f g one other =
      let same = both_ways f g (one.first g other.stands) (other.first f one.stands) in
      joined f g same.0 same.1
      (one_replica f g same.0 same.1 (placed laid bytes f one.stands)
      (placed laid bytes g other.stands))
    where
      joined : (f g : Fault) → f.offset ≡ g.offset → f.code ≡ g.code → f.replica ≡ g.replica → f ≡ g
      joined f g at same replica = ap (λ (x : ℕ). fault f.code x f.replica) at
          ∙ ap (λ (c : Code). fault c g.offset f.replica) same ∙ ap (fault g.code g.offset) replica

  one_summary : (t : Trace) (s r : Summary) → IsSummary t s → IsSummary t r → s ≡ r
  one_summary t s r one other =
      let low = one.least other.reached.0 other.reached.1 in
      let high = other.least one.reached.0 one.reached.1 in
      joined s r (one.replicas ∙ sym other.replicas) (one.batches ∙ sym other.batches)
      (omega (arith, low, high, one.reached.2, other.reached.2))
    where
      joined : (s r : Summary) → s.replicas ≡ r.replicas → s.batches ≡ r.batches → s.committed ≡ r.committed → s ≡ r
      joined s r a b c = ap (λ (x : ℕ). summary x s.batches s.committed) a
          ∙ ap (λ (x : ℕ). summary r.replicas x s.committed) b ∙ ap (summary r.replicas r.batches) c

  pub one_verdict : (v w : Verdict) → IsVerdict bytes v → IsVerdict bytes w → v ≡ w
  one_verdict (Yes s) (Yes r) one other =
      ap Yes (one_summary one.0 s r one.3
      (subst (λ (t : Trace). IsSummary t r) (spelled_once bytes other.0 one.0 other.1 one.1) other.3))
  one_verdict (Yes s) (No g) one other = absurd (one.2 g other.stands)
  one_verdict (No f) (Yes r) one other = absurd (other.2 f one.stands)
  one_verdict (No f) (No g) one other = ap No (one_fault f g one other)
