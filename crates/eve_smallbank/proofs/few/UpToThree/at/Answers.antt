use Rattle.std.proofs.Common.{rules}
use Rattle.eve_smallbank.proofs.few.UpToThree.at.Goals as goal

pub returns-in-Three-eq2 : goal.returns-in-Three-eq2
returns-in-Three-eq2 g c = search rules
