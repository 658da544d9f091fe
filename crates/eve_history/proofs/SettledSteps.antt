-- What a section has committed, discarded or transferred are steps of it.
use Rattle.std.proofs.Common.{◌≡◌, ℕ, zero, suc, ◌+◌, ◌-◌, Bool, true, false, cond, List, [], ◌∷◌, ◌++◌, map, Option}
use Rattle.std.proofs.Common.{Some, None, slice_get, replicate, sym, subst}
use Rattle.std.specs.Prelude.{⊤}
use Rattle.std.specs.List.{AllByRecursion}
use Rattle.std.proofs.lemmas.List.Elements.{recursion_from_All}
use Rattle.std.proofs.lemmas.Option.{none-some, same_Some, slice_get-get_or}
use Rattle.eve_grammar.specs.Trace.{Attempt, Transfer, Step, Attempts, Commits, RollsBack, Transfers, Trace}
use Rattle.eve_grammar.specs.Spelling.{steps_at}
use Rattle.eve_grammar.proofs.Lists.{all-slice_get, all-append, all_unmapped}
use Rattle.eve_history.specs.declared.fate.Fate.{Fate}
use Rattle.eve_history.specs.Section.{Placed, HowReached, ByAttempt, ByTransfer, Skipped, SectionState, start}
use Rattle.eve_history.specs.Section.{committing}
use Rattle.eve_history.specs.Section.{next, state_after, attempts_by, settled}
use Rattle.eve_history.specs.SectionHistory.{attempts_among, placed_at, picked, is_committed, is_discarded, history}
use Rattle.eve_history.specs.SectionHistory.{how_reached_at, attempt_by, committed_at}
use Rattle.eve_history.specs.Fates.{fates_from}
use Rattle.eve_history.specs.inner.AmongSteps.{IsStepOf}
use Rattle.eve_history.proofs.FateLaws.{committed_are_picked, discarded_are_picked}

-- ---- what holds of each step holds of what comes of it

attempts_in : (P : ℕ × Step → Type 0) (steps : List (ℕ × Step)) → AllByRecursion P steps
    → AllByRecursion (λ x. P (x.0, Attempts x.1)) (attempts_among steps)
attempts_in P [] all = tt
attempts_in P ((at, Attempts a) ∷ steps) all = (all.0, attempts_in P steps all.1)
attempts_in P ((at, Commits c) ∷ steps) all = attempts_in P steps all.1
attempts_in P ((at, RollsBack r) ∷ steps) all = attempts_in P steps all.1
attempts_in P ((at, Transfers x) ∷ steps) all = attempts_in P steps all.1

all_picked : (P : ℕ × Attempt → Type 0) (test : Fate → Bool) (xs : List (ℕ × Attempt)) (fates : List Fate)
    → AllByRecursion P xs → AllByRecursion P (picked test xs fates)
all_picked P test [] fates all = tt
all_picked P test (x ∷ xs) [] all = tt
all_picked P test (x ∷ xs) (fate ∷ fates) all = by (test fate) (all_picked P test xs fates all.1)
  where
    by : (b : Bool) → AllByRecursion P (picked test xs fates)
        → AllByRecursion P (cond b (x ∷ picked test xs fates) (picked test xs fates))
    by true later = (all.0, later)
    by false later = later

-- of the steps by which states were transferred, where a number was reached so
abbrev OfState : (ℕ × Step → Type 0) → HowReached → Type 0
OfState P (ByAttempt p) = ⊤
OfState P (ByTransfer at x) = P (at, Transfers x)
OfState P Skipped = ⊤

all_skipped : (P : ℕ × Step → Type 0) (n : ℕ) (l : HowReached) → OfState P l
    → AllByRecursion (OfState P) (replicate n Skipped ++ l ∷ [])
all_skipped P zero l last = (last, tt)
all_skipped P (suc n) l last = (tt, all_skipped P n l last)

states_next : (P : ℕ × Step → Type 0) (s : SectionState) (step : ℕ × Step) → P step
    → AllByRecursion (OfState P) s.ways_reached → AllByRecursion (OfState P) (next s step).ways_reached
states_next P s (at, Attempts a) own all = all
states_next P s (at, Commits c) own all = by s.pending
  where
    by : (pending : List Placed) → AllByRecursion (OfState P) (committing s pending).ways_reached
    by [] = all
    by (p ∷ pending) = all-append (OfState P) s.ways_reached (ByAttempt p ∷ []) all (tt, tt)
states_next P s (at, RollsBack r) own all = all
states_next P s (at, Transfers x) own all =
    all-append (OfState P) s.ways_reached (replicate (x.seq - (s.last + 1)) Skipped ++ ByTransfer at x ∷ []) all
    (all_skipped P (x.seq - (s.last + 1)) (ByTransfer at x) own)

states_after : (P : ℕ × Step → Type 0) (s : SectionState) (steps : List (ℕ × Step)) → AllByRecursion P steps
    → AllByRecursion (OfState P) s.ways_reached → AllByRecursion (OfState P) (state_after s steps).ways_reached
states_after P s [] own all = all
states_after P s (step ∷ steps) own all = states_after P (next s step) steps own.1 (states_next P s step own.0 all)

-- ---- at a number

none_there : {P A : Type 0} (x : A) → ◌≡◌ {A = Option A} None (Some x) → P
none_there x e = absurd (none-some x e)

each_committed : (P : Placed → Type 0) (ls : List HowReached) (k : ℕ) (p : Placed) → AllByRecursion P (attempts_by ls)
    → attempt_by (slice_get ls k) ≡ Some p → P p
each_committed P [] k p all at = none_there p at
each_committed P (ByAttempt q ∷ ls) zero p all at = subst P (same_Some q p at) all.0
each_committed P (ByTransfer from x ∷ ls) zero p all at = none_there p at
each_committed P (Skipped ∷ ls) zero p all at = none_there p at
each_committed P (ByAttempt q ∷ ls) (suc k) p all at = each_committed P ls k p all.1 at
each_committed P (ByTransfer from x ∷ ls) (suc k) p all at = each_committed P ls k p all at
each_committed P (Skipped ∷ ls) (suc k) p all at = each_committed P ls k p all at

-- ---- of a section

module _ (t : Trace) (e : ℕ) where
  abbrev IsStep : ℕ × Step → Type 0
  IsStep x = IsStepOf t e x.0 x.1

  abbrev IsAttempt : Placed → Type 0
  IsAttempt p = IsStepOf t e p.offset (Attempts p.attempt)

  all_steps : AllByRecursion IsStep (steps_at t e)
  all_steps = recursion_from_All IsStep (steps_at t e) (λ k d lt. (k, slice_get-get_or (steps_at t e) k d lt))

  all_attempts : (test : Fate → Bool) (ps : List Placed)
      → map placed_at ps ≡ picked test (attempts_among (steps_at t e)) (fates_from 0 (steps_at t e))
      → AllByRecursion IsAttempt ps
  all_attempts test ps is =
      all_unmapped (λ x. IsStepOf t e x.0 (Attempts x.1)) placed_at ps
      (subst (AllByRecursion (λ x. IsStepOf t e x.0 (Attempts x.1))) (sym is)
      (all_picked (λ x. IsStepOf t e x.0 (Attempts x.1)) test (attempts_among (steps_at t e))
      (fates_from 0 (steps_at t e)) (attempts_in IsStep (steps_at t e) all_steps)))

  all_committed : AllByRecursion IsAttempt (attempts_by (history t e).ways_reached)
  all_committed = all_attempts is_committed (attempts_by (history t e).ways_reached) (committed_are_picked t e)

  pub settled_are_steps : AllByRecursion IsAttempt (settled (history t e))
  settled_are_steps = all-append IsAttempt (attempts_by (history t e).ways_reached) (history t e).discarded
      all_committed
      (all_attempts is_discarded (history t e).discarded (discarded_are_picked t e))

  pub committed_is_step : (n : ℕ) (p : Placed) → committed_at t e n ≡ Some p → IsAttempt p
  committed_is_step zero p at = none_there p at
  committed_is_step (suc n) p at = each_committed IsAttempt (history t e).ways_reached n p all_committed at

  pub state_is_step : (n at : ℕ) (x : Transfer) → how_reached_at t e n ≡ Some (ByTransfer at x)
      → IsStepOf t e at (Transfers x)
  unfolding history
  state_is_step zero at x is = none_there (ByTransfer at x) is
  state_is_step (suc n) at x is =
      all-slice_get (OfState IsStep) (history t e).ways_reached n (ByTransfer at x)
      (states_after IsStep start (steps_at t e) all_steps tt) is
