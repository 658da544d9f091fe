-- Public: other crates cite these lemmas. What was committed or transferred a majority decided, and what was rolled
-- back a majority rolled back.
use Rattle.std.proofs.Common.{◌≡◌, ℕ, zero, suc, ◌+◌, ◌-◌, ◌<◌, ◌==◌, true, List, [], ◌∷◌, ◌++◌, length, length-append}
use Rattle.std.proofs.Common.{slice_get, None, Some, refl, sym, ap, subst, ◌∙◌, ◌⊎◌, inl, inr, arith}
use Rattle.std.specs.Prelude.{nat_lt, replicate}
use Rattle.std.specs.List.{AllByRecursion}
use Rattle.std.specs.Cmp.Lexicographic.{same_text, pointwise}
use Rattle.std.proofs.lemmas.Bool.{and_parts, eqb-true, ltb-true}
use Rattle.std.proofs.lemmas.List.{length-replicate}
use Rattle.std.proofs.lemmas.Option.{same_Some}
use Rattle.eve_grammar.specs.Trace.{Commit, Rollback, Transfer, Step, Attempts, Commits, RollsBack, Transfers, Trace}
use Rattle.eve_grammar.specs.Spelling.{steps_at}
use Rattle.eve_history.specs.Section.{Placed, HowReached, ByAttempt, ByTransfer, Skipped, SectionState, start}
use Rattle.eve_history.specs.Section.{committing}
use Rattle.eve_history.specs.Section.{after_transfer, next, state_after, commits_first, is_right, are_right}
use Rattle.eve_history.specs.SectionHistory.{history, attempt_by, committed_at, IsRightSection}
use Rattle.eve_votes.specs.Votes.{IsDecided, IsRolledBack}
use Rattle.eve_agree.specs.Majority.{SomeDecided, IsBacked}
use Rattle.eve_audit.proofs.NumberLaws.{none_there, each_at}

-- ---- along a section

-- the view and token of each attempt by which a number was reached are decided for that number
abbrev AreDecided : Trace → List HowReached → Type 0
AreDecided t ls = (n : ℕ) (p : Placed) → attempt_by (slice_get ls n) ≡ Some p
    → IsDecided t (suc n) p.attempt.view p.attempt.token

-- what stands in a list with one more at its end
pushed : (ls : List HowReached) (q : Placed) (n : ℕ) (p : Placed)
    → attempt_by (slice_get (ls ++ ByAttempt q ∷ []) n) ≡ Some p
    → (attempt_by (slice_get ls n) ≡ Some p) ⊎ ((length ls ≡ n) × (q ≡ p))
pushed [] q zero p at = inr (refl, same_Some q p at)
pushed [] q (suc n) p at = none_there p at
pushed (l ∷ ls) q zero p at = inl at
pushed (l ∷ ls) q (suc n) p at =
    elim (pushed ls q n p at) [ inl there ↦ inl there | inr here ↦ inr (ap suc here.0, here.1) ]

decided-push : (t : Trace) (ls : List HowReached) (q : Placed) → AreDecided t ls
    → IsDecided t (suc (length ls)) q.attempt.view q.attempt.token → AreDecided t (ls ++ ByAttempt q ∷ [])
decided-push t ls q decided last n p at = elim (pushed ls q n p at) [
  | inl there ↦ decided n p there
  | inr here ↦
      subst (λ (x : Placed). IsDecided t (suc n) x.attempt.view x.attempt.token) here.1
      (subst (λ k. IsDecided t (suc k) q.attempt.view q.attempt.token) here.0 last)
]

record IsDecidedTo (t : Trace) (s : SectionState) : Type 0 where
  decided : AreDecided t s.ways_reached
  last : s.last ≡ length s.ways_reached

decided_committing : (t : Trace) (s : SectionState) (c : Commit) (pending : List Placed) → c.seq ≡ s.last + 1
    → commits_first pending c ≡ true → IsDecided t c.seq c.view c.token
    → IsDecidedTo t s → IsDecidedTo t (committing s pending)
decided_committing t s c [] number first by holds = holds
decided_committing t s c (p ∷ ps) number first by holds =
    let parts = and_parts (p.attempt.view == c.view) (pointwise ◌==◌ p.attempt.token c.token) first in
    let view = eqb-true p.attempt.view c.view parts.0 in
    let token = same_text p.attempt.token c.token (sym parts.1) in
    record {
      decided = decided-push t s.ways_reached p holds.decided
          (subst (λ n. IsDecided t n p.attempt.view p.attempt.token)
          (number ∙ place s.last (length s.ways_reached) holds.last)
          (subst (λ v. IsDecided t c.seq v p.attempt.token) (sym view)
          (subst (IsDecided t c.seq c.view) (sym token) by)));
      last = one_more s.last s.ways_reached holds.last;
    }
  where
    place : (n m : ℕ) → n ≡ m → n + 1 ≡ suc m
    place n m e = omega arith

    one_more : (n : ℕ) (ls : List HowReached) → n ≡ length ls → n + 1 ≡ length (ls ++ ByAttempt p ∷ [])
    one_more n ls h = simp length-append (omega arith)

-- where a state is transferred, no number more is reached by an attempt
no_attempt_transferred : (skipped at : ℕ) (x : Transfer) (n : ℕ)
    → attempt_by (slice_get (replicate skipped Skipped ++ ByTransfer at x ∷ []) n) ≡ None
no_attempt_transferred zero at x zero = refl
no_attempt_transferred zero at x (suc n) = refl
no_attempt_transferred (suc skipped) at x zero = refl
no_attempt_transferred (suc skipped) at x (suc n) = no_attempt_transferred skipped at x n

none_pushed : (ls more : List HowReached) → ((n : ℕ) → attempt_by (slice_get more n) ≡ None) → (n : ℕ) (p : Placed)
    → attempt_by (slice_get (ls ++ more) n) ≡ Some p → attempt_by (slice_get ls n) ≡ Some p
none_pushed [] more none n p at = none_there p (sym (none n) ∙ at)
none_pushed (l ∷ ls) more none zero p at = at
none_pushed (l ∷ ls) more none (suc n) p at = none_pushed ls more none n p at

decided_transferring : (t : Trace) (s : SectionState) (at : ℕ) (x : Transfer) → s.last < x.seq → IsDecidedTo t s
    → IsDecidedTo t (after_transfer s at x)
decided_transferring t s at x above holds = record {
  decided = λ n p there. holds.decided n p
      (none_pushed s.ways_reached (replicate (x.seq - (s.last + 1)) Skipped ++ ByTransfer at x ∷ [])
      (no_attempt_transferred (x.seq - (s.last + 1)) at x) n p there);
  last = as_many s.ways_reached s.last x.seq holds.last above;
}
  where
    as_many : (ls : List HowReached) (last seq : ℕ) → last ≡ length ls → last < seq
        → seq ≡ length (ls ++ (replicate (seq - (last + 1)) Skipped ++ ByTransfer at x ∷ []))
    as_many ls last seq count above =
        let skipped : List HowReached = replicate (seq - (last + 1)) Skipped in
        let long : length skipped ≡ seq - (last + 1) = length-replicate (seq - (last + 1)) Skipped in
        omega (
          arith,
          count,
          above,
          long,
          length-append ls (skipped ++ ByTransfer at x ∷ []),
          length-append skipped (ByTransfer at x ∷ []),
        )

decided_next : (t : Trace) (s : SectionState) (step : ℕ × Step) → is_right t s step.1 ≡ true → IsBacked t step.1
    → IsDecidedTo t s → IsDecidedTo t (next s step)
decided_next t s (at, Attempts a) right backed holds = record { decided = holds.decided; last = holds.last }
decided_next t s (at, Commits c) right backed holds =
    let parts = and_parts (c.seq == s.last + 1) (commits_first s.pending c) right in
    decided_committing t s c s.pending (eqb-true c.seq (s.last + 1) parts.0) parts.1 backed holds
decided_next t s (at, RollsBack r) right backed holds = record { decided = holds.decided; last = holds.last }
decided_next t s (at, Transfers x) right backed holds =
    decided_transferring t s at x (ltb-true s.last x.seq (and_parts (nat_lt s.last x.seq) _ right).0) holds

decided_after : (t : Trace) (s : SectionState) (steps : List (ℕ × Step)) → are_right t s steps ≡ true
    → AllByRecursion (λ x. IsBacked t x.1) steps → IsDecidedTo t s
    → IsDecidedTo t (state_after s steps)
decided_after t s [] right backed holds = holds
decided_after t s (step ∷ steps) right backed holds =
    let parts = and_parts (is_right t s step.1) (are_right t (next s step) steps) right in
    decided_after t (next s step) steps parts.1 backed.1 (decided_next t s step parts.0 backed.0 holds)

-- each committed attempt is decided
pub committed_decided : (t : Trace) (e : ℕ) → IsRightSection t e → AllByRecursion (λ x. IsBacked t x.1) (steps_at t e)
    → (n : ℕ) (p : Placed) → committed_at t e n ≡ Some p → IsDecided t n p.attempt.view p.attempt.token
unfolding history
committed_decided t e right backed zero p at = none_there p at
committed_decided t e right backed (suc k) p at =
    (decided_after t start (steps_at t e) right backed
    (record { decided = λ n q none. none_there q none; last = refl })).decided k p at

-- ---- step by step

pub commit_backed : (t : Trace) (steps : List (ℕ × Step)) (k at : ℕ) (c : Commit)
    → AllByRecursion (λ x. IsBacked t x.1) steps
    → slice_get steps k ≡ Some (at, Commits c) → IsDecided t c.seq c.view c.token
commit_backed t steps k at c backed e = each_at (λ x. IsBacked t x.1) steps k (at, Commits c) backed e

pub rollback_backed : (t : Trace) (steps : List (ℕ × Step)) (k at : ℕ) (r : Rollback)
    → AllByRecursion (λ x. IsBacked t x.1) steps
    → slice_get steps k ≡ Some (at, RollsBack r) → IsRolledBack t (r.to + 1) (r.view - 1)
rollback_backed t steps k at r backed e = each_at (λ x. IsBacked t x.1) steps k (at, RollsBack r) backed e

pub transfer_backed : (t : Trace) (steps : List (ℕ × Step)) (k at : ℕ) (x : Transfer)
    → AllByRecursion (λ x. IsBacked t x.1) steps
    → slice_get steps k ≡ Some (at, Transfers x) → SomeDecided t x.seq x.view
transfer_backed t steps k at x backed e = each_at (λ x. IsBacked t x.1) steps k (at, Transfers x) backed e
