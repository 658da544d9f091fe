use Rattle.std.proofs.Common.{arith}
use Rattle.eve_floor.proofs.Requests.{batch_counted}
use Rattle.eve_floor.proofs.shared.count_of.Goals as goal

pub returns-clause-range : goal.returns-clause-range
returns-clause-range c = let both = batch_counted c.args.batch.now c.requires in
    (omega (arith, both.0, c.len.ensures), omega (arith, both.1, c.len.ensures))
