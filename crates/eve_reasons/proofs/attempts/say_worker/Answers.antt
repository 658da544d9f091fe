use Rattle.std.proofs.Common.{refl}
use Rattle.eve_reasons.proofs.attempts.say_worker.Goals as goal

pub returns-else-serial : goal.returns-else-serial
returns-else-serial c = rw (c.if-serial.false, c.say_numbers.ensures) refl
