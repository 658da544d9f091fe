-- The items so far are written.
use Rattle.std.proofs.Common.{take}
use Rattle.std.specs.List.{flat_map}
use Rattle.eve_write.specs.Writes.{Wrote}
use Rattle.eve_write.proofs.spell.write_each.Given as goal

abbrev pub invariant-loop-item : goal.invariant-loop-item
invariant-loop-item g l =
    Wrote g.W.Sink.written g.W.Sink.failures l.initial.out l.out (flat_map g.T.Spell.text (take l.item-index l.items))
