-- Where a section has come to, beside the ledger that the replica kept of it.
use Rattle.std.proofs.Common.{◌≡◌, ◌+◌, ◌*◌, ◌≤◌, List, map, length, filter}
use Rattle.std.specs.List.{flat_map}
use Rattle.eve_smallbank.specs.Access.{is_write}
use Rattle.eve_smallbank.specs.declared.entry.Entry.{Entry}
use Rattle.eve_grammar.specs.Trace.{Attempt, Trace, opening_rows}
use Rattle.eve_history.specs.Section.{came_by, SectionState, path_of}
use Rattle.eve_history.specs.SectionHistory.{names_of}
use Rattle.eve_chains.specs.Visible.{execution, rows_after}
use Rattle.eve_chains.specs.Committed.{attempts_of}
use Rattle.eve_agree.specs.Tables.{entries_of}
use Rattle.eve_attempts.specs.Ledgers.{Opened, Ledger, opening, ledger_rows, table_now, rows_committed}
use Rattle.eve_replica.specs.Sections.{RunPlan}

-- the plan of the run that the trace is of
pub record IsPlanOf (p : RunPlan) (t : Trace) : Type 0 where
  pub names : p.names ≡ names_of t
  pub batches : p.batches ≡ t.batches
  pub first : p.first ≡ opening t.head.version (opening_rows t.customers) t.head.workers t.head.window

-- what an attempt of the trace wrote, in its certificate's order
abbrev pub written_by : Trace → Attempt → List Entry
written_by t a = filter (λ e. is_write e.kind) (entries_of (execution t a))

-- what a ledger keeps of it while it is open
abbrev pub opened_of : Trace → Attempt → Opened
opened_of t a = record { view = a.view; token = a.token; written = written_by t a }

-- The section has come to where the ledger has: the same view, last committed number and duty, the same attempts
-- open, and the rows have what came as the section says. The ledger is of the trace's version.
pub record AreAlike (t : Trace) (s : SectionState) (l : Ledger) : Type 0 where
  pub version : l.version ≡ t.head.version
  pub view : s.view ≡ l.view
  pub last : s.last ≡ l.committed
  pub serial : s.rolled_back ≡ l.is_next_serial
  pub workers : l.workers ≡ t.head.workers
  pub window : l.window ≡ t.head.window
  pub rows : ledger_rows l ≡ 2 * length t.customers
  pub opened : l.opened ≡ map (opened_of t) (attempts_of s.pending)
  pub due : s.last + length s.pending ≤ length t.batches
  pub now : table_now l ≡ rows_after t (path_of s)
  pub committed : rows_committed l ≡ rows_after t (flat_map came_by s.ways_reached)
