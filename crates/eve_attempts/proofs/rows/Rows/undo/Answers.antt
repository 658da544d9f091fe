use Rattle.std.proofs.Common.{◌≡◌, ℕ, ◌-◌, ◌≤◌, ◌∷◌, [], IsTrue, length, drop, refl, sym, ap, subst, ◌∙◌, arith}
use Rattle.std.proofs.lemmas.List.{drop_all}
use Rattle.eve_smallbank.specs.Chain.{Table}
use Rattle.eve_attempts.specs.Ledgers.{table_of_rows, values_before, is_write_in}
use Rattle.eve_attempts.proofs.Lists.{all_read, drop_before}
use Rattle.eve_attempts.proofs.rows.Rows.undo.Goals as goal

pub loop-end-init : goal.loop-end-init
loop-end-init c = record {
  within = omega arith;
  as_many = refl;
  versions = refl;
  version = refl;
  table = ap (values_before (table_of_rows c.args.self.now.rows))
      (sym (drop_all (length c.args.written.now) c.args.written.now (omega arith)));
}

pub undo_one-requires : goal.undo_one-requires
undo_one-requires c =
    subst (λ n. IsTrue (is_write_in n c.index-written-end.result)) (sym c.loop-end.invariant.as_many)
    (all_read (is_write_in (length c.args.self.now.rows.balances)) c.args.written.now
    (c.loop-end.end - 1) c.index-written-end.result c.requires
    (omega (arith, c.loop-end.invariant.within, c.loop-end-test.true)) c.index-written-end.is)

pub loop-end-preserved : goal.loop-end-preserved
loop-end-preserved c =
    let within = c.loop-end.invariant.within in
    let some = c.loop-end-test.true in
    record {
      within = omega arith;
      as_many = c.undo_one.ensures.as_many ∙ c.loop-end.invariant.as_many;
      versions = c.undo_one.ensures.versions ∙ c.loop-end.invariant.versions;
      version = c.undo_one.ensures.version ∙ c.loop-end.invariant.version;
      table = c.undo_one.ensures.table
          ∙ ap (λ (t : Table). values_before t (c.index-written-end.result ∷ [])) c.loop-end.invariant.table
          ∙ ap (values_before (table_of_rows c.args.self.now.rows))
          (sym (drop_before c.args.written.now c.loop-end.end c.index-written-end.result some within
          c.index-written-end.is));
    }

pub returns-clause-table : goal.returns-clause-table
returns-clause-table c = c.loop-end.invariant.table
    ∙ ap (λ (n : ℕ). values_before (table_of_rows c.args.self.now.rows) (drop n c.args.written.now))
    (none c.loop-end.end c.loop-end-test.false)
  where
    none : (n : ℕ) → n ≤ 0 → n ≡ 0
    none n le = omega arith
