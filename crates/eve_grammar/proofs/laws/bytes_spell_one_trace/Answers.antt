use Rattle.eve_grammar.proofs.OneTrace.{one_trace}
use Rattle.eve_grammar.proofs.laws.bytes_spell_one_trace.Goals as goal

pub returns : goal.returns
returns c = one_trace
