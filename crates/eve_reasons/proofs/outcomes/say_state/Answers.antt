use Rattle.std.proofs.Common.{refl}
use Rattle.eve_reasons.proofs.outcomes.say_state.Goals as goal

pub returns-in-NoneCommitted : goal.returns-in-NoneCommitted
returns-in-NoneCommitted c = rw c.in-NoneCommitted.is c.say.ensures

pub returns-in-Row : goal.returns-in-Row
returns-in-Row c =
    rw c.in-Row.is (rw (c.say_amounts.ensures, c.say-in-Row.ensures, c.say_first.ensures) refl)
