use Rattle.std.proofs.Common.{refl}
use Rattle.eve_reasons.proofs.outcomes.say_difference.Goals as goal

pub returns-in-Row : goal.returns-in-Row
returns-in-Row c = rw c.in-Row.is (rw (c.say_amounts.ensures, c.say.ensures) refl)

pub returns-in-Reply : goal.returns-in-Reply
returns-in-Reply c =
    rw c.in-Reply.is (rw (c.say-in-Reply-3.ensures, c.say-in-Reply-2.ensures, c.say-in-Reply.ensures) refl)
