-- The texts so far are written.
use Rattle.std.proofs.Common.{take}
use Rattle.std.specs.List.{flat_map}
use Rattle.eve_write.specs.Writes.{Wrote}
use Rattle.eve_write.proofs.spell.send_texts.Given as goal

abbrev pub invariant-loop-text : goal.invariant-loop-text
invariant-loop-text g l =
    Wrote g.W.Sink.written g.W.Sink.failures l.initial.out l.out (flat_map (λ x. x.now) (take l.text-index l.texts))
