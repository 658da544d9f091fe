use Rattle.std.proofs.Common.{arith}
use Rattle.std.proofs.lemmas.Grind.{common_steps}
use Rattle.eve_attempts.proofs.order.certificate_of.Goals as goal

pub loop-key-preserved : goal.loop-key-preserved
loop-key-preserved c = record {
  indexes = grind (arith, common_steps);
  len = omega arith;
  room = omega arith;
}
