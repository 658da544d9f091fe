use Rattle.std.proofs.Common.{length, ap, subst, sym, ◌∙◌, arith}
use Rattle.std.proofs.lemmas.List.{length-set}
use Rattle.eve_smallbank.specs.Access.{balance_of_row}
use Rattle.eve_chains.specs.Numbered.{IsRowBelow}
use Rattle.eve_chains.proofs.SetRows.{set_more}
use Rattle.eve_chains.proofs.settled.set_each.Goals as goal

pub set-requires : goal.set-requires
set-requires g c =
    let below = subst (IsRowBelow (length (g.T.SetRow.rows c.args.rows.now))) (sym c.change-item.is)
    (c.requires.rows c.loop-change.change-index c.change-item.result c.loop-change-test.true) in
    omega (arith, below, c.loop-change.invariant.as_many)

pub loop-change-preserved : goal.loop-change-preserved
loop-change-preserved g c =
    let change = c.change-item.result in
    let old = g.T.SetRow.rows c.loop-change.rows in
    let below = subst (IsRowBelow (length (g.T.SetRow.rows c.args.rows.now))) (sym c.change-item.is)
    (c.requires.rows c.loop-change.change-index change c.loop-change-test.true) in
    record {
      as_many = ap length c.set.ensures ∙ length-set old change.row change.value ∙ c.loop-change.invariant.as_many;
      values = set_more c.args.changes.now c.loop-change.change-index change c.loop-change-test.true c.change-item.is
          (balance_of_row (g.T.SetRow.rows c.args.rows.now)) old (g.T.SetRow.rows c.set.new.self)
          c.loop-change.invariant.values (omega (arith, below, c.loop-change.invariant.as_many)) c.set.ensures;
    }
