use Rattle.std.proofs.Common.{◌≡◌, ℕ, ◌-◌, ◌≤◌, IsTrue, List, length, drop, refl, sym, ap, subst, ◌∙◌, arith}
use Rattle.std.specs.List.{list_all}
use Rattle.std.proofs.lemmas.List.{drop_all}
use Rattle.eve_smallbank.specs.Chain.{Table}
use Rattle.eve_attempts.specs.Ledgers.{Opened, table_of_rows, values_before, writes_in, is_write_in}
use Rattle.eve_attempts.proofs.Lists.{drop_before}
use Rattle.eve_attempts.proofs.TableLaws.{values_before-append, writes_of_one}
use Rattle.eve_attempts.proofs.restores.undo_all.Goals as goal

pub loop-end-init : goal.loop-end-init
loop-end-init c = record {
  within = omega arith;
  as_many = refl;
  version = refl;
  table = ap (λ (os : List Opened). values_before (table_of_rows c.args.rows.now.rows) (writes_in os))
      (sym (drop_all (length c.args.opened.now) c.args.opened.now (omega arith)));
}

-- the slice is what the attempt wrote
written_is : (c : goal.After-as_slice) → c.as_slice.result.now ≡ c.index-opened-end.result.written
written_is c = c.as_slice.ensures.value ∙ ap (λ (o : Opened). o.written) c.open.view_is

pub undo-requires : goal.undo-requires
undo-requires c =
    let at : ℕ = c.loop-end.end - 1 in
    let o = c.index-opened-end.result in
    let right = writes_of_one (is_write_in (length c.args.rows.now.rows.balances)) c.args.opened.now at o c.requires
    (omega (arith, c.loop-end.invariant.within, c.loop-end-test.true)) c.index-opened-end.is in
    let is : o.written ≡ c.as_slice.result.now = sym (written_is c) in
    subst (λ n. IsTrue (list_all (is_write_in n) c.as_slice.result.now)) (sym c.loop-end.invariant.as_many)
    (subst (λ es. IsTrue (list_all (is_write_in (length c.args.rows.now.rows.balances)) es)) is right)

pub loop-end-preserved : goal.loop-end-preserved
loop-end-preserved c =
    let within = c.loop-end.invariant.within in
    let some = c.loop-end-test.true in
    let T = table_of_rows c.args.rows.now.rows in
    let rest = writes_in (drop c.loop-end.end c.args.opened.now) in
    let o = c.index-opened-end.result in
    record {
      within = omega arith;
      as_many = c.undo.ensures.as_many ∙ c.loop-end.invariant.as_many;
      version = c.undo.ensures.version ∙ c.loop-end.invariant.version;
      table = c.undo.ensures.table
          ∙ ap (values_before (table_of_rows c.loop-end.rows.rows))
          (c.as_slice.ensures.value ∙ ap (λ (p : Opened). p.written) c.open.view_is)
          ∙ ap (λ (t : Table). values_before t o.written) c.loop-end.invariant.table
          ∙ sym (values_before-append T o.written rest)
          ∙ ap (λ (os : List Opened). values_before T (writes_in os))
          (sym (drop_before c.args.opened.now c.loop-end.end o some within c.index-opened-end.is));
    }

pub returns-clause-table : goal.returns-clause-table
returns-clause-table c =
    c.loop-end.invariant.table
    ∙ ap (λ (n : ℕ). values_before (table_of_rows c.args.rows.now.rows) (writes_in (drop n c.args.opened.now)))
    (none c.loop-end.end c.loop-end-test.false)
  where
    none : (n : ℕ) → n ≤ 0 → n ≡ 0
    none n le = omega arith
