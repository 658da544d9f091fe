-- Those so far are written.
use Rattle.std.proofs.Common.{take, map}
use Rattle.std.specs.List.{flat_map, enumerate_from}
use Rattle.eve_grammar.specs.Spelling.{votes_text}
use Rattle.eve_write.specs.Data.{votes}
use Rattle.eve_write.specs.Writes.{Wrote}
use Rattle.eve_write.proofs.sections.write_verifiers.Given as goal

abbrev pub invariant-loop-i : goal.invariant-loop-i
invariant-loop-i g l =
    Wrote g.W.Sink.written g.W.Sink.failures l.initial.out l.out
    (flat_map votes_text (take l.i (enumerate_from 0 (map votes l.verifiers))))
