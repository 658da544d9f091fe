-- Those so far are written.
use Rattle.std.proofs.Common.{take, map}
use Rattle.std.specs.List.{flat_map, enumerate_from}
use Rattle.eve_grammar.specs.Spelling.{batch_text}
use Rattle.eve_write.specs.Data.{batch}
use Rattle.eve_write.specs.Writes.{Wrote}
use Rattle.eve_write.proofs.sections.write_batches.Given as goal

abbrev pub invariant-loop-i : goal.invariant-loop-i
invariant-loop-i g l =
    Wrote g.W.Sink.written g.W.Sink.failures l.initial.out l.out
    (flat_map batch_text (take l.i (enumerate_from 1 (map batch l.batches))))
