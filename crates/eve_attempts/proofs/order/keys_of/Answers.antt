use Rattle.std.proofs.Common.{arith}
use Rattle.std.proofs.lemmas.Grind.{common_steps}
use Rattle.eve_attempts.proofs.order.keys_of.Goals as goal

pub loop-place-preserved : goal.loop-place-preserved
loop-place-preserved c = record {
  keys = grind (arith, common_steps);
  len = omega arith;
  room = omega arith;
}
