use Rattle.std.proofs.Common.{◌≡◌, ℕ, ◌+◌, ◌<◌, true, List, map, length, sym, subst, ap, ap₂, ◌∙◌, arith}
use Rattle.std.specs.List.{AllByRecursion}
use Rattle.std.specs.List.Sorted.{IsPermutation}
use Rattle.eve_smallbank.specs.Chain.{Table}
use Rattle.eve_attempts.specs.Ledgers.{Opened, Ledger, IsLedger, table_of_rows, values_before, writes_in, open_writes}
use Rattle.eve_attempts.specs.Ledgers.{rows_committed}
use Rattle.eve_attempts.specs.CommitsAndRollbacks.{restore_in, RollsBack}
use Rattle.eve_attempts.specs.inner.RestoredRows.{entry_rows, rising_from}
use Rattle.eve_attempts.specs.HeldLedgers.{ledger_of}
use Rattle.eve_attempts.specs.inner.KeptRows.{KeptRows}
use Rattle.eve_attempts.proofs.LedgerSteps.{are_there, rolled_back, ledger_empty}
use Rattle.eve_attempts.proofs.ledger.Ledger.rollback.Goals as goal

-- rolled back, with these rows of a version
abbrev with_none : Ledger → KeptRows → List Opened → Ledger
with_none s kept opened = record s {
  version = kept.version;
  rows = kept.rows;
  opened = opened;
  view = s.view + 1;
  is_next_serial = true;
}

pub invariant_of-self : goal.invariant_of-self
invariant_of-self c =
    subst (λ (v : ℕ). IsLedger (with_none (ledger_of c.self.inside)
    (record { version = v; rows = c.undo_all.new.rows.rows }) c.clear.new.self.items)) (sym c.undo_all.ensures.version)
    (subst (λ (os : List Opened). IsLedger
    (record (ledger_of c.self.inside) {
      rows = c.undo_all.new.rows.rows;
      opened = os;
      view = c.self.inside.view + 1;
      is_next_serial = true;
    })) (sym c.clear.ensures.items)
    (ledger_empty (ledger_of c.self.inside) c.undo_all.new.rows.rows (c.self.inside.view + 1) true c.self.invariant))

pub restore_all-requires-clause-there : goal.restore_all-requires-clause-there
restore_all-requires-clause-there c =
    let s : Ledger = ledger_of c.self.inside in
    let moved : IsPermutation (entry_rows (open_writes s)) c.in_ok-numbers.numbers.items =
    subst (λ (os : List Opened). IsPermutation (entry_rows (writes_in os)) c.in_ok-numbers.numbers.items)
    c.as_slice.ensures.value c.in_ok-numbers.ensures.rows in
    subst (AllByRecursion (λ row. row < length c.undo_all.new.rows.rows.balances)) (sym c.as_slice-3.ensures.value)
    (subst (λ (n : ℕ). AllByRecursion (λ row. row < n) c.in_ok-numbers.numbers.items) (sym c.undo_all.ensures.as_many)
    (are_there s c.self.invariant c.in_ok-numbers.numbers.items moved c.in_ok-numbers.ensures.rising))

pub returns-clause-rolled_back : goal.returns-clause-rolled_back
returns-clause-rolled_back c =
    let s : Ledger = ledger_of c.self.inside in
    let moved : IsPermutation (entry_rows (open_writes s)) c.in_ok-numbers.numbers.items =
    subst (λ (os : List Opened). IsPermutation (entry_rows (writes_in os)) c.in_ok-numbers.numbers.items)
    c.as_slice.ensures.value c.in_ok-numbers.ensures.rows in
    let table : table_of_rows c.undo_all.new.rows.rows ≡ rows_committed s =
    c.undo_all.ensures.table
    ∙ ap (λ (os : List Opened). values_before (table_of_rows c.self.inside.rows.rows) (writes_in os))
    c.as_slice-2.ensures.value in
    let restores : c.restore_all.new.restores.items ≡ map (restore_in (rows_committed s))
    (rising_from 0 c.in_ok-numbers.numbers.items) =
    c.restore_all.ensures ∙ ap₂ (λ (u : Table) (ns : List ℕ). map (restore_in u) (rising_from 0 ns)) table
    c.as_slice-3.ensures.value in
    let new : Ledger = record s {
      rows = c.undo_all.new.rows.rows;
      opened = c.clear.new.self.items;
      view = s.view + 1;
      is_next_serial = true;
    } in
    subst (λ (v : ℕ). RollsBack c.args.self.now
    (with_none s (record { version = v; rows = c.undo_all.new.rows.rows }) c.clear.new.self.items)
    (record { to = s.committed; view = s.view + 1; restores = c.restore_all.new.restores.items }))
    (sym c.undo_all.ensures.version)
    (subst (λ (o : Ledger). RollsBack o new
    (record { to = s.committed; view = s.view + 1; restores = c.restore_all.new.restores.items }))
    c.self.view_is
    (rolled_back s c.self.invariant c.in_ok-numbers.numbers.items moved c.in_ok-numbers.ensures.rising new
    c.undo_all.new.rows.rows c.restore_all.new.restores.items
    (ap (λ (os : List Opened). record s {
      rows = c.undo_all.new.rows.rows;
      opened = os;
      view = s.view + 1;
      is_next_serial = true;
    }) c.clear.ensures.items)
    c.undo_all.ensures.as_many table restores (omega (arith, c.self.invariant.counted))
    (let view : s.view ≡ c.args.self.now.view = ap (λ (o : Ledger). o.view) c.self.view_is in
    omega (arith, c.requires))))
