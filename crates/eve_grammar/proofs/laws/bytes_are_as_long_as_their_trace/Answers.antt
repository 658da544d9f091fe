use Rattle.eve_grammar.proofs.Lengths.{long_as_trace}
use Rattle.eve_grammar.proofs.laws.bytes_are_as_long_as_their_trace.Goals as goal

pub returns : goal.returns
returns c = long_as_trace
