use Rattle.std.proofs.Common.{arith}
use Rattle.std.proofs.lemmas.Grind.{common_steps}
use Rattle.eve_attempts.proofs.restores.restore_all.Goals as goal

pub loop-number-preserved : goal.loop-number-preserved
loop-number-preserved c = record {
  restores = grind (arith, common_steps);
  len = grind (arith, common_steps);
  room = grind (arith, common_steps);
}
