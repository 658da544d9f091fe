use Rattle.std.proofs.Common.{refl}
use Rattle.eve_reasons.proofs.rows.say_restore.Goals as goal

pub returns-in-Another : goal.returns-in-Another
returns-in-Another c = rw (c.in-Another.is, c.say.ensures, c.say_state-in-Another.ensures) refl
