use Rattle.std.proofs.Common.{rules}
use Rattle.eve_workload.proofs.WordBits.{bit_added}
use Rattle.eve_workload.proofs.group_set.GroupSet.add.Goals as goal

pub returns : goal.returns
returns c other = bit_added c.args.self.now.words c.args.group (search rules) other
