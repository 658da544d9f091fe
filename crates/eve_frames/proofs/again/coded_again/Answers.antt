use Rattle.std.proofs.Common.{rules}
use Rattle.eve_grammar.specs.Readers.{coded_at}
use Rattle.eve_frames.proofs.again.coded_again.Goals as goal

pub returns-in-4 : goal.returns-in-4
unfolding coded_at
returns-in-4 c = search rules
