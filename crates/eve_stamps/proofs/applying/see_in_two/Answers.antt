use Rattle.std.proofs.Common.{rules}
use Rattle.eve_stamps.proofs.applying.see_in_two.Goals as goal

pub returns-in-None : goal.returns-in-None
returns-in-None c = search rules
