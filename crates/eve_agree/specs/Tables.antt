-- What all rows have along a section: as the replica works, and as it is committed; and what a rollback must restore.
-- docs/MODEL.md, "Working table, committed table".
use Rattle.std.specs.Prelude.{◌≡◌, ℕ, suc, ◌==◌, Bool, true, not, ◌&&◌, ◌||◌, IsTrue, if◌then◌else◌, List, [], ◌∷◌}
use Rattle.std.specs.Prelude.{take, slice_get, Some, fold}
use Rattle.std.specs.List.{list_all, list_any, flat_map}
use Rattle.std.specs.Ordering.{int_eq}
use Rattle.eve_smallbank.specs.declared.entry.Entry.{Entry}
use Rattle.eve_smallbank.specs.Access.{Executed, is_write, writes_row}
use Rattle.eve_smallbank.specs.Chain.{Table, table_after_all}
use Rattle.eve_grammar.specs.Trace.{Rollback, Step, Attempts, Commits, RollsBack, Transfers, Trace}
use Rattle.eve_grammar.specs.Spelling.{steps_at}
use Rattle.eve_grammar.specs.declared.restore.Restore.{Restore}
use Rattle.eve_history.specs.Section.{came_by, SectionState, start, next, state_after}
use Rattle.eve_chains.specs.Visible.{opening_table, execution, executions, transferred_table, rows_after}
use Rattle.eve_chains.specs.Committed.{attempts_of}

-- ---- the tables

-- a table after restores
abbrev pub restored : Table → List Restore → Table
restored table rs =
    fold (λ now r row. if r.row == row then record { version = r.version; value = r.value } else now row) table rs

-- a table after steps: every attempt writes, a rollback restores, and a state that is transferred replaces all rows
abbrev pub worked : Trace → Table → List (ℕ × Step) → Table
worked t table [] = table
worked t table ((at, Attempts a) ∷ steps) = worked t (table_after_all table (execution t a)) steps
worked t table ((at, Commits c) ∷ steps) = worked t table steps
worked t table ((at, RollsBack r) ∷ steps) = worked t (restored table r.restores) steps
worked t table ((at, Transfers x) ∷ steps) = worked t (transferred_table x.rows) steps

-- what came by the numbers that were reached leaves
abbrev pub committed_rows : Trace → SectionState → Table
committed_rows t s = rows_after t (flat_map came_by s.ways_reached)

-- after the first k steps of replica e: what it works on
unfoldable pub working_table : Trace → ℕ → ℕ → Table
working_table t e k = worked t (opening_table t) (take k (steps_at t e))

-- and what it has committed
unfoldable pub committed_table : Trace → ℕ → ℕ → Table
committed_table t e k = committed_rows t (state_after start (take k (steps_at t e)))

-- the step with this number, from 0, is a rollback, and after it the replica works on what is committed
abbrev pub IsRestored : Trace → ℕ → ℕ → Type 0
IsRestored t e k = (at : ℕ) (r : Rollback) → slice_get (steps_at t e) k ≡ Some (at, RollsBack r)
    → working_table t e (suc k) ≡ committed_table t e (suc k)

-- ---- restores

abbrev pub entries_of : List Executed → List Entry
entries_of xs = flat_map (λ x. x.entries) xs

-- all that the open attempts noted
abbrev pub open_entries : Trace → SectionState → List Entry
open_entries t s = flat_map (λ x. x.entries) (executions t (attempts_of s.pending))

-- a row that these entries write, as it is in the table
abbrev pub is_written_in : Table → List Entry → Restore → Bool
is_written_in table es r =
    list_any (writes_row r.row) es && ((r.version == (table r.row).version) && int_eq r.value (table r.row).value)

-- such rows, and none is left out
abbrev pub are_written_in : Table → List Entry → List Restore → Bool
are_written_in table es rs =
    list_all (is_written_in table es) rs
    && list_all (λ e. not (is_write e.kind) || list_any (λ r. r.row == e.row) rs) es

-- the rows that open attempts wrote, as they are committed; that rows rise is a matter of form
-- Where it isn't so, F50 Restore stands.
abbrev pub are_right_restores : Trace → SectionState → List Restore → Bool
are_right_restores t s rs = are_written_in (committed_rows t s) (open_entries t s) rs

abbrev pub restores_rightly : Trace → SectionState → Step → Bool
restores_rightly t s (Attempts a) = true
restores_rightly t s (Commits c) = true
restores_rightly t s (RollsBack r) = are_right_restores t s r.restores
restores_rightly t s (Transfers x) = true

-- each rollback among the steps restores those rows
abbrev pub all_restore_rightly : Trace → SectionState → List (ℕ × Step) → Bool
all_restore_rightly t s [] = true
all_restore_rightly t s (step ∷ steps) = restores_rightly t s step.1 && all_restore_rightly t (next s step) steps

-- each rollback of replica e restores what it must
abbrev pub RestoresAreRight : Trace → ℕ → Type 0
RestoresAreRight t e = IsTrue (all_restore_rightly t start (steps_at t e))
