use Rattle.eve_write.proofs.JoinedWrites.{Wrote-more, Stopped-more, Writes-at_err}
use Rattle.eve_write.proofs.spell.write_each.Goals as goal

pub returns-in_err-write : goal.returns-in_err-write
returns-in_err-write g c =
    Writes-at_err _ _ _ _ _ c.from_residual.result c.from_residual.ensures.0
    (Stopped-more g.T.Spell.text c.args.items.now c.loop-item.item-index c.item-item.result c.loop-item-test.true
    c.item-item.is c.loop-item.invariant c.in_err-write.ensures)

pub loop-item-preserved : goal.loop-item-preserved
loop-item-preserved g c =
    Wrote-more g.T.Spell.text c.args.items.now c.loop-item.item-index c.item-item.result c.loop-item-test.true
    c.item-item.is c.loop-item.invariant c.in_ok-write.ensures
