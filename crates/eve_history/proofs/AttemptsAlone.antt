-- Sections in which each number was reached by an attempt, as in all of a trace whose version has no transfers.
use Rattle.std.proofs.Common.{◌≡◌, ℕ, zero, suc, ◌<◌, List, [], ◌∷◌, ◌++◌, length, slice_get, Some, refl}
use Rattle.std.proofs.Common.{true, false, sym, ◌∙◌, arith}
use Rattle.std.specs.Prelude.{IsFalse}
use Rattle.std.specs.List.{AllByRecursion, list_all}
use Rattle.std.proofs.lemmas.Bool.{and_parts, false≢true}
use Rattle.eve_grammar.specs.Trace.{Step, Attempts, Commits, RollsBack, Transfers, Trace}
use Rattle.eve_grammar.specs.Frames.{has_transfers}
use Rattle.eve_grammar.specs.Limits.{is_of_version, HasLimits}
use Rattle.eve_grammar.proofs.Lists.{all-slice_get}
use Rattle.eve_grammar.specs.Spelling.{steps_at}
use Rattle.eve_history.specs.Section.{Placed, HowReached, ByAttempt, ByTransfer, Skipped}
use Rattle.eve_history.specs.Section.{IsByAttempt, SectionState, start, committing, next, state_after}
use Rattle.eve_history.specs.SectionHistory.{history, ByAttemptsTo}
use Rattle.eve_history.proofs.SectionSteps.{steps_all}

one_more_attempt : (ls : List HowReached) (p : Placed) → AllByRecursion IsByAttempt ls
    → AllByRecursion IsByAttempt (ls ++ ByAttempt p ∷ [])
one_more_attempt [] p by = (tt, tt)
one_more_attempt (l ∷ ls) p by = (by.0, one_more_attempt ls p by.1)

attempts_commit : (s : SectionState) (pending : List Placed) → AllByRecursion IsByAttempt s.ways_reached
    → AllByRecursion IsByAttempt (committing s pending).ways_reached
attempts_commit s [] by = by
attempts_commit s (p ∷ ps) by = one_more_attempt s.ways_reached p by

-- in a version without transfers
attempts_next : (version : ℕ) (s : SectionState) (step : ℕ × Step) → has_transfers version ≡ false
    → is_of_version version step.1 ≡ true → AllByRecursion IsByAttempt s.ways_reached
    → AllByRecursion IsByAttempt (next s step).ways_reached
attempts_next version s (at, Attempts a) none kind by = by
attempts_next version s (at, Commits c) none kind by = attempts_commit s s.pending by
attempts_next version s (at, RollsBack r) none kind by = by
attempts_next version s (at, Transfers x) none kind by = absurd (false≢true (sym none ∙ kind))

attempts_after : (version : ℕ) (s : SectionState) (steps : List (ℕ × Step)) → has_transfers version ≡ false
    → list_all (λ x. is_of_version version x.1) steps ≡ true → AllByRecursion IsByAttempt s.ways_reached
    → AllByRecursion IsByAttempt (state_after s steps).ways_reached
attempts_after version s [] none kinds by = by
attempts_after version s (step ∷ steps) none kinds by =
    let parts = and_parts (is_of_version version step.1) (list_all (λ x. is_of_version version x.1) steps) kinds in
    attempts_after version (next s step) steps none parts.1 (attempts_next version s step none parts.0 by)

pub all_by_attempts : (t : Trace) (e : ℕ) → HasLimits t → IsFalse (has_transfers t.head.version)
    → AllByRecursion IsByAttempt (history t e).ways_reached
unfolding history
all_by_attempts t e limits none = attempts_after t.head.version start (steps_at t e) none
    (steps_all (is_of_version t.head.version) t e limits.kinds) tt

-- so it is up to every number
pub by_attempts_to : (t : Trace) (e n : ℕ) → HasLimits t → IsFalse (has_transfers t.head.version) → ByAttemptsTo t e n
by_attempts_to t e n limits none = each
  where
    each : ByAttemptsTo t e n
    each zero l few e = absurd (cc)
    each (suc m) l few got = all-slice_get IsByAttempt (history t e).ways_reached m l (all_by_attempts t e limits none)
        got

pub attempt_at : (ls : List HowReached) (n : ℕ) → AllByRecursion IsByAttempt ls → n < length ls
    → (p : Placed) × (slice_get ls n ≡ Some (ByAttempt p))
attempt_at [] n by lt = absurd (omega (arith, lt))
attempt_at (ByAttempt p ∷ ls) zero by lt = (p, refl)
attempt_at (ByTransfer at x ∷ ls) zero by lt = absurd by.0
attempt_at (Skipped ∷ ls) zero by lt = absurd by.0
attempt_at (l ∷ ls) (suc n) by lt = attempt_at ls n by.1 (omega (arith, lt))
