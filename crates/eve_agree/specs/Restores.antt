-- The faults of restores, and where they stand; and the first row that shows one. docs/MODEL.md, "Working table,
-- committed table", "Faults" and "Evidence".
use Rattle.std.specs.Prelude.{◌≡◌, ◌≢◌, ◌<◌, ℕ, ◌==◌, if◌then◌else◌, IsFalse, List, [], ◌∷◌, Some, None}
use Rattle.eve_grammar.specs.Trace.{Trace}
use Rattle.eve_grammar.specs.Spelling.{steps_at}
use Rattle.eve_grammar.specs.declared.restore.Restore.{Restore}
use Rattle.eve_views.specs.declared.fault.Code.{Code}
use Rattle.eve_views.specs.declared.fault.Code.TheVariants as code
use Rattle.eve_views.specs.Form.{SomePlace}
use Rattle.eve_history.specs.Section.{SectionState, start, state_after}
use Rattle.eve_history.specs.Structure.{OfRollback}
use Rattle.eve_agree.specs.Tables.{are_right_restores, committed_rows, open_entries}
use Rattle.eve_agree.specs.Marks.{Marking, restored_to, written_in}
use Rattle.eve_agree.specs.declared.wrong_restore.WrongRestore.{WrongRestore}

-- a fault of restores stands at this offset in replica e's section
abbrev pub StandsInRestores : Code → Trace → ℕ → ℕ → Type 0
StandsInRestores code.Restore t e at =
    SomePlace (steps_at t e)
    (λ before step. (step.0 ≡ at)
    × OfRollback step.1 (λ r. IsFalse (are_right_restores t (state_after start before) r.restores)))
StandsInRestores _ t e at = ⊥

-- ---- row by row

-- what each row is restored to, if it is
abbrev pub restores_by_row : List Restore → Marking
restores_by_row [] row = None
restores_by_row (r ∷ rs) row = if r.row == row then Some (restored_to r) else restores_by_row rs row

-- what it must be restored to, if it must be: the rows that open attempts wrote, as they are committed
abbrev pub due_by_row : Trace → SectionState → Marking
due_by_row t s = written_in (committed_rows t s) (open_entries t s)

-- the first row in which they differ, and what it has in each
pub record IsFirstWrongRow (found due : Marking) (w : WrongRestore) : Type 0 where
  pub found_is : w.found ≡ found w.row
  pub due_is : w.due ≡ due w.row
  pub apart : w.found ≢ w.due
  pub first : (row : ℕ) → row < w.row → found row ≡ due row

-- it is the first row that shows that the rollback at this offset of replica e's section restores what it must not
abbrev pub IsWrongRestore : Trace → ℕ → ℕ → WrongRestore → Type 0
IsWrongRestore t e at w =
    SomePlace (steps_at t e) (λ before step. (step.0 ≡ at) × OfRollback step.1 (λ r.
    IsFirstWrongRow (restores_by_row r.restores) (due_by_row t (state_after start before)) w))
