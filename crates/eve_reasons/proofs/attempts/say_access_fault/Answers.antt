use Rattle.std.proofs.Common.{refl}
use Rattle.eve_reasons.proofs.attempts.say_access_fault.Goals as goal

pub returns-in-Index : goal.returns-in-Index
returns-in-Index c = rw (c.in-Index.is, c.say_numbers.ensures) refl

pub returns-in-Again : goal.returns-in-Again
returns-in-Again c =
    rw (c.in-Again.is, c.say-in-Again-3.ensures, c.say-in-Again-2.ensures, c.say-in-Again.ensures, c.say.ensures) refl
