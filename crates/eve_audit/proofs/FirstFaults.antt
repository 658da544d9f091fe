-- Public: other crates cite these lemmas. From the first fault of a phase to the first of several phases.
use Rattle.std.proofs.Common.{◌≡◌, ℕ, ◌<◌, ◌≤◌, inl, inr, length, sym, ◌∙◌, arith}
use Rattle.eve_grammar.specs.Trace.{Trace}
use Rattle.eve_views.specs.Code.{phase_of}
use Rattle.eve_views.specs.Form.{IfFound, IsLeast, HasNone, Precedes, IsFaultIn, IsFaultSomewhere, IsFaultOutside}
use Rattle.eve_views.specs.declared.fault.CheckFault.{CheckFault}
use Rattle.eve_views.specs.declared.fault.CheckFault.TheVariants.{Found, Memory}
use Rattle.eve_views.specs.declared.fault.Fault.{Fault}
use Rattle.eve_audit.specs.Verdict.{IsOwnFault, of_structure, of_records, of_chains, of_restores, of_tokens}
use Rattle.eve_audit.specs.Verdict.{IsCommonFault, IsTraceFault, of_votes, of_majorities, of_agreement}
use Rattle.eve_audit.specs.Verdict.{of_replies, in_orders, in_section, in_common}
use Rattle.eve_audit.specs.Reports.{IsFirstOf, IsFaultBelow}
use Rattle.eve_audit.proofs.Phases.{order_phase, structure_phase, record_phase, chain_phase, restore_phase, token_phase}
use Rattle.eve_audit.proofs.Phases.{vote_phase, majority_phase, outcome_phase, reply_phase}
use Rattle.eve_votes.specs.Faults.{StandsInVotes}
use Rattle.eve_agree.specs.SentReplies.{StandsInReplies}
use Rattle.eve_agree.specs.Agreement.{StandsInAgreement}
use Rattle.eve_agree.specs.Majority.{StandsInMajorities}
use Rattle.eve_history.specs.Order.{StandsInOrders}
use Rattle.eve_history.specs.Structure.{StandsInStructure}

-- a fact about what was found, from another about it
pub found_weaker : (P Q : Fault → Type 0) (why : CheckFault) → ((f : Fault) → P f → Q f) → IfFound why P → IfFound why Q
found_weaker P Q Memory to is = tt
found_weaker P Q (Found f) to is = to f is

-- a fault of a lower phase comes first
lower : (f g : Fault) (m n : ℕ) → phase_of f.code ≡ m → phase_of g.code ≡ n → m < n → Precedes f g
lower f g m n is other lt = inl (omega arith)

-- ---- a replica's own

module _ (t : Trace) (e : ℕ) where
  pub own_phase : (f : Fault) → IsOwnFault t e f → (3 ≤ phase_of f.code) × (phase_of f.code ≤ 7)
  own_phase f (of_structure is) = let p = structure_phase t e f is in (omega arith, omega arith)
  own_phase f (of_records is) = let p = record_phase t e f is in (omega arith, omega arith)
  own_phase f (of_chains is) = let p = chain_phase t e f is in (omega arith, omega arith)
  own_phase f (of_restores is) = let p = restore_phase t e f is in (omega arith, omega arith)
  own_phase f (of_tokens is) = let p = token_phase t e f is in (omega arith, omega arith)

  pub structure_first : (f : Fault) → IsLeast (IsFaultIn StandsInStructure t e) f → IsFirstOf (IsOwnFault t e) f
  structure_first f least = record { is = of_structure least.is; first = by }
    where
      own : phase_of f.code ≡ 3
      own = structure_phase t e f least.is

      by : (g : Fault) → IsOwnFault t e g → Precedes f g
      by g (of_structure is) = inr (own ∙ sym (structure_phase t e g is), least.least g is)
      by g (of_records is) = lower f g 3 4 own (record_phase t e g is) (omega arith)
      by g (of_chains is) = lower f g 3 5 own (chain_phase t e g is) (omega arith)
      by g (of_restores is) = lower f g 3 6 own (restore_phase t e g is) (omega arith)
      by g (of_tokens is) = lower f g 3 7 own (token_phase t e g is) (omega arith)

-- ---- all replicas together

module _ (t : Trace) where
  pub common_phase : (f : Fault) → IsCommonFault t f → 8 ≤ phase_of f.code
  common_phase f (of_votes is) = let p = vote_phase t f is in omega arith
  common_phase f (of_majorities is) = let p = majority_phase t f is in omega arith
  common_phase f (of_agreement is) = let p = outcome_phase t f is in omega arith
  common_phase f (of_replies is) = let p = reply_phase t f is in omega arith

  pub vote_first : (f : Fault) → IsLeast (IsFaultOutside StandsInVotes t) f → IsFirstOf (IsCommonFault t) f
  vote_first f least = record { is = of_votes least.is; first = by }
    where
      own : phase_of f.code ≡ 8
      own = vote_phase t f least.is

      by : (g : Fault) → IsCommonFault t g → Precedes f g
      by g (of_votes is) = inr (own ∙ sym (vote_phase t g is), least.least g is)
      by g (of_majorities is) = lower f g 8 9 own (majority_phase t g is) (omega arith)
      by g (of_agreement is) = lower f g 8 10 own (outcome_phase t g is) (omega arith)
      by g (of_replies is) = lower f g 8 11 own (reply_phase t g is) (omega arith)

  pub majority_first : (f : Fault) → HasNone (IsFaultOutside StandsInVotes t)
      → IsLeast (IsFaultSomewhere StandsInMajorities t) f → IsFirstOf (IsCommonFault t) f
  majority_first f votes least = record { is = of_majorities least.is; first = by }
    where
      own : phase_of f.code ≡ 9
      own = majority_phase t f least.is

      by : (g : Fault) → IsCommonFault t g → Precedes f g
      by g (of_votes is) = absurd (votes g is)
      by g (of_majorities is) = inr (own ∙ sym (majority_phase t g is), least.least g is)
      by g (of_agreement is) = lower f g 9 10 own (outcome_phase t g is) (omega arith)
      by g (of_replies is) = lower f g 9 11 own (reply_phase t g is) (omega arith)

  pub outcome_first : (f : Fault) → HasNone (IsFaultOutside StandsInVotes t)
      → HasNone (IsFaultSomewhere StandsInMajorities t) → IsLeast (IsFaultSomewhere StandsInAgreement t) f
      → IsFirstOf (IsCommonFault t) f
  outcome_first f votes majorities least = record { is = of_agreement least.is; first = by }
    where
      own : phase_of f.code ≡ 10
      own = outcome_phase t f least.is

      by : (g : Fault) → IsCommonFault t g → Precedes f g
      by g (of_votes is) = absurd (votes g is)
      by g (of_majorities is) = absurd (majorities g is)
      by g (of_agreement is) = inr (own ∙ sym (outcome_phase t g is), least.least g is)
      by g (of_replies is) = lower f g 10 11 own (reply_phase t g is) (omega arith)

  pub reply_first : (f : Fault) → HasNone (IsFaultOutside StandsInVotes t)
      → HasNone (IsFaultSomewhere StandsInMajorities t) → HasNone (IsFaultSomewhere StandsInAgreement t)
      → IsLeast (IsFaultOutside StandsInReplies t) f → IsFirstOf (IsCommonFault t) f
  reply_first f votes majorities agreement least = record { is = of_replies least.is; first = by }
    where
      by : (g : Fault) → IsCommonFault t g → Precedes f g
      by g (of_votes is) = absurd (votes g is)
      by g (of_majorities is) = absurd (majorities g is)
      by g (of_agreement is) = absurd (agreement g is)
      by g (of_replies is) = inr (reply_phase t f least.is ∙ sym (reply_phase t g is), least.least g is)

  pub none_common : HasNone (IsFaultOutside StandsInVotes t) → HasNone (IsFaultSomewhere StandsInMajorities t)
      → HasNone (IsFaultSomewhere StandsInAgreement t)
      → HasNone (IsFaultOutside StandsInReplies t) → HasNone (IsCommonFault t)
  none_common votes majorities agreement replies = by
    where
      by : (g : Fault) → IsCommonFault t g → ⊥
      by g (of_votes is) = votes g is
      by g (of_majorities is) = majorities g is
      by g (of_agreement is) = agreement g is
      by g (of_replies is) = replies g is

  -- ---- the trace

  below_phase : (n : ℕ) (f : Fault) → IsFaultBelow t n f → (3 ≤ phase_of f.code) × (phase_of f.code ≤ 7)
  below_phase n f below = own_phase t below.0 f below.2

  pub trace_phase : (f : Fault) → IsTraceFault t f → 2 ≤ phase_of f.code
  trace_phase f (in_orders is) = omega (arith, order_phase t f is)
  trace_phase f (in_section below) = omega (arith, (below_phase (length t.sections) f below).0)
  trace_phase f (in_common is) = omega (arith, common_phase f is)

  pub order_first : (f : Fault) → IsLeast (IsFaultOutside StandsInOrders t) f → IsFirstOf (IsTraceFault t) f
  order_first f least = record { is = in_orders least.is; first = by }
    where
      by : (g : Fault) → IsTraceFault t g → Precedes f g
      by g (in_orders is) = inr (order_phase t f least.is ∙ sym (order_phase t g is), least.least g is)
      by g (in_section below) =
          inl (omega (arith, order_phase t f least.is, (below_phase (length t.sections) g below).0))
      by g (in_common is) = inl (omega (arith, order_phase t f least.is, common_phase g is))

  pub section_first : (f : Fault) → HasNone (IsFaultOutside StandsInOrders t)
      → IsFirstOf (IsFaultBelow t (length t.sections)) f
      → IsFirstOf (IsTraceFault t) f
  section_first f orders found = record { is = in_section found.is; first = by }
    where
      by : (g : Fault) → IsTraceFault t g → Precedes f g
      by g (in_orders is) = absurd (orders g is)
      by g (in_section below) = found.first g below
      by g (in_common is) = inl (omega (arith, (below_phase (length t.sections) f found.is).1, common_phase g is))

  pub common_first : (f : Fault) → HasNone (IsFaultOutside StandsInOrders t)
      → HasNone (IsFaultBelow t (length t.sections))
      → IsFirstOf (IsCommonFault t) f → IsFirstOf (IsTraceFault t) f
  common_first f orders sections found = record { is = in_common found.is; first = by }
    where
      by : (g : Fault) → IsTraceFault t g → Precedes f g
      by g (in_orders is) = absurd (orders g is)
      by g (in_section below) = absurd (sections g below)
      by g (in_common is) = found.first g is

  pub none_in_trace : HasNone (IsFaultOutside StandsInOrders t) → HasNone (IsFaultBelow t (length t.sections))
      → HasNone (IsCommonFault t) → HasNone (IsTraceFault t)
  none_in_trace orders sections common = by
    where
      by : (g : Fault) → IsTraceFault t g → ⊥
      by g (in_orders is) = orders g is
      by g (in_section below) = sections g below
      by g (in_common is) = common g is
