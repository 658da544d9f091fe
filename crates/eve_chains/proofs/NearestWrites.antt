-- What the rows have after attempts is what their nearest writes left, or else what the rows had before.
use Rattle.std.proofs.Common.{◌≡◌, ℕ, [], ◌∷◌, ◌++◌, List, map, sym, ap, ◌∙◌}
use Rattle.eve_smallbank.specs.Chain.{Table, visible_at, before_rest, table_after_all}
use Rattle.eve_smallbank.specs.declared.versioned.Versioned.{Versioned}
use Rattle.eve_smallbank.proofs.Chains.{visible_at-before_rest}
use Rattle.eve_grammar.specs.Trace.{Attempt, Trace}
use Rattle.eve_history.specs.Section.{Came, Ran, Transferred, Placed}
use Rattle.eve_chains.specs.Visible.{opening_table, transferred_table, executed_in, executions, rows_after}
use Rattle.eve_chains.specs.Visible.{before_index}
use Rattle.eve_chains.specs.Visible.{visible_to, entries_before}
use Rattle.eve_chains.proofs.LeftByRecords.{rows_after-append, rows_after-transferred, with_attempts}

nearest : (t : Trace) (table : Table) (attempts : List Attempt) → table_after_all table (executions t attempts)
    ≡ visible_at table (entries_before t attempts)
nearest t table attempts = sym (visible_at-before_rest table [] (executions t attempts))

pub rows_visible : (t : Trace) (attempts : List Attempt) → rows_after t (map Ran attempts)
    ≡ visible_at (opening_table t) (entries_before t attempts)
rows_visible t attempts = rows_after-append t [] attempts ∙ nearest t (opening_table t) attempts

-- behind a state that was transferred
pub rows_visible_behind : (t : Trace) (before : List Came) (rows : List Versioned) (attempts : List Attempt)
    → rows_after t (before ++ Transferred rows ∷ map Ran attempts)
    ≡ visible_at (transferred_table rows) (entries_before t attempts)
rows_visible_behind t before rows attempts =
    rows_after-transferred t before rows (map Ran attempts) ∙ with_attempts t (transferred_table rows) attempts
    ∙ nearest t (transferred_table rows) attempts

-- and to a request
pub seen_visible : (t : Trace) (p : Placed) (index : ℕ) (before : List Came) (attempts : List Attempt)
    → p.path ≡ before ++ map Ran attempts
    → visible_to t p index ≡ visible_at (rows_after t before) (before_rest (entries_before t attempts)
    (executed_in t p.attempt (before_index index p.attempt.certificate)))
seen_visible t p index before attempts is =
    ap (λ (table : Table). table_after_all table (executed_in t p.attempt (before_index index p.attempt.certificate)))
    (ap (rows_after t) is ∙ rows_after-append t before attempts ∙ nearest t (rows_after t before) attempts)
    ∙ sym (visible_at-before_rest (rows_after t before) (entries_before t attempts)
    (executed_in t p.attempt (before_index index p.attempt.certificate)))
