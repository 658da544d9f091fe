use Rattle.std.proofs.Common.{ap}
use Rattle.eve_grammar.specs.Frames.{frames_of}
use Rattle.eve_grammar.specs.Spelling.{spelling}
use Rattle.eve_grammar.proofs.Spelled.{spelled_within}
use Rattle.eve_write.specs.Data.{trace}
use Rattle.eve_write.proofs.laws.what_is_written_is_read_again.Goals as goal

pub returns : goal.returns
returns c = record {
  spelled = λ p spelled short. spelled_within (trace p) spelled.limits short;
  only = λ p t spelled short spells. c.bytes_spell_one_trace.ensures (spelling (trace p)) t (trace p) spells
      (spelled_within (trace p) spelled.limits short);
  frames = λ p t spelled short spells. ap frames_of
      (c.bytes_spell_one_trace.ensures (spelling (trace p)) t (trace p) spells
      (spelled_within (trace p) spelled.limits short));
  run = λ p spelled short. c.each_trace_runs.ensures (trace p) spelled.limits short;
}
