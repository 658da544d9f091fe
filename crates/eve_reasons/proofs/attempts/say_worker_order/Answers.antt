use Rattle.std.proofs.Common.{refl}
use Rattle.eve_reasons.proofs.attempts.say_worker_order.Goals as goal

pub returns : goal.returns
returns c = rw (c.say_numbers.ensures, c.say_access.ensures, c.say_attempt.ensures) refl
