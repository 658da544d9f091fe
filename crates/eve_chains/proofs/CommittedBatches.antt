-- The records of the committed batches are of the rows that there are.
use Rattle.std.proofs.Common.{ℕ, List, [], ◌∷◌, map, sym, subst}
use Rattle.std.specs.List.{AllByRecursion}
use Rattle.eve_grammar.specs.Trace.{Attempt, Trace, head_of}
use Rattle.eve_grammar.specs.Spelling.{steps_at}
use Rattle.eve_grammar.specs.Limits.{row_count, HasLimits}
use Rattle.eve_history.specs.Section.{Placed, attempts_by}
use Rattle.eve_history.specs.Fates.{fates_from}
use Rattle.eve_history.specs.SectionHistory.{placed_at, ordered}
use Rattle.eve_history.specs.SectionHistory.{attempts_among, history, is_committed}
use Rattle.eve_history.proofs.FateLaws.{committed_are_picked}
use Rattle.eve_chains.specs.Along.{AreWithin}
use Rattle.eve_chains.proofs.AttemptRecords.{IsWithin, within_section, within_own}
use Rattle.eve_chains.proofs.Attempts.{all_picked}

all_placed : (P : ℕ × Attempt → Type 0) (ps : List Placed) → AllByRecursion P (map placed_at ps)
    → AllByRecursion (λ p. P (placed_at p)) ps
all_placed P [] all = tt
all_placed P (p ∷ ps) all = (all.0, all_placed P ps all.1)

-- they are of the rows that the customers have
pub batches_within : (t : Trace) (e : ℕ) → HasLimits t
    → AllByRecursion (λ p. AreWithin (row_count (head_of t)) (ordered p.offset p.attempt))
    (attempts_by (history t e).ways_reached)
batches_within t e limits =
    let rows = row_count (head_of t) in
    within_own rows (attempts_by (history t e).ways_reached)
    (all_placed (IsWithin rows) (attempts_by (history t e).ways_reached)
    (subst (AllByRecursion (IsWithin rows)) (sym (committed_are_picked t e))
    (all_picked (IsWithin rows) is_committed (attempts_among (steps_at t e)) (fates_from 0 (steps_at t e))
    (within_section t e limits))))
