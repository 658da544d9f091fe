-- What shows that a rollback's restores aren't those that are due. docs/MODEL.md, "Working table, committed table" and
-- "Evidence".
use Rattle.std.specs.Prelude.{◌≡◌, ◌≢◌, ◌<◌, ℕ, Some, None}
use Rattle.eve_grammar.specs.Trace.{Rollback, Trace}
use Rattle.eve_grammar.specs.Spelling.{steps_at}
use Rattle.eve_views.specs.Form.{SomePlace}
use Rattle.eve_history.specs.Section.{SectionState, start, state_after}
use Rattle.eve_history.specs.Structure.{OfRollback}
use Rattle.eve_agree.specs.Marks.{Marking}
use Rattle.eve_agree.specs.Restores.{restores_by_row, due_by_row}
use Rattle.eve_evidence.specs.declared.evidence.ToldState.{ToldState}
use Rattle.eve_evidence.specs.declared.evidence.RestoreFault.{RestoreFault}
use Rattle.eve_evidence.specs.declared.evidence.RestoreFault.TheVariants.{Missing, Extra, Another}
use Rattle.eve_evidence.specs.declared.evidence.Evidence.{Evidence}
use Rattle.eve_evidence.specs.declared.evidence.Evidence.TheVariants as shown
use Rattle.eve_evidence.specs.Told.{IsToldRow}

-- the row is told, and it has that in these
pub record IsToldState (t : Trace) (rows : Marking) (s : ToldState) : Type 0 where
  pub row_is : IsToldRow t s.row.row s.row
  pub has_is : rows s.row.row ≡ Some s.has

-- the rows before this one have the same in both
abbrev pub AreSameBefore : Marking → Marking → ℕ → Type 0
AreSameBefore found due row = (r : ℕ) → r < row → found r ≡ due r

-- the first row that doesn't: it is due and not found, or found and not due, or another version or value is due
abbrev pub TellsRow : Trace → Marking → Marking → RestoreFault → Type 0
TellsRow t found due (Missing s) =
    IsToldState t due s × (found s.row.row ≡ None) × AreSameBefore found due s.row.row
TellsRow t found due (Extra s) =
    IsToldState t found s × (due s.row.row ≡ None) × AreSameBefore found due s.row.row
TellsRow t found due (Another s u) =
    IsToldState t found s × IsToldState t due u × (s.row.row ≡ u.row.row) × (s.has ≢ u.has)
    × AreSameBefore found due s.row.row

-- the evidence is of a restore, and tells it of what a rollback restores and what it must, where its section has come
-- to this
abbrev pub TellsRestoreIn : Trace → SectionState → Rollback → Evidence → Type 0
TellsRestoreIn t s r (shown.Restore wrong) = TellsRow t (restores_by_row r.restores) (due_by_row t s) wrong
TellsRestoreIn t s r _ = ⊥

-- The evidence shows that the rollback at this byte of replica e's section restores something else than it must.
abbrev pub TellsRestore : Trace → ℕ → ℕ → Evidence → Type 0
TellsRestore t e place evidence =
    SomePlace (steps_at t e) (λ before step. (step.0 ≡ place)
    × OfRollback step.1 (λ r. TellsRestoreIn t (state_after start before) r evidence))
