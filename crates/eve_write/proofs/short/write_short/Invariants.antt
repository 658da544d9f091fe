-- The items so far are sent or gathered.
use Rattle.eve_write.proofs.GatheredTexts.{AreGathered}
use Rattle.eve_write.proofs.short.write_short.Given as goal

abbrev pub invariant-loop-item : goal.invariant-loop-item
invariant-loop-item g l =
    AreGathered g.W.Sink.written g.W.Sink.failures g.T.Short.text l.items l.initial.out l.out l.item-index l.texts.items
