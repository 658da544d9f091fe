use Rattle.std.proofs.Common.{refl}
use Rattle.eve_reasons.proofs.structure.say_commit.Goals as goal

pub returns-in-Token : goal.returns-in-Token
returns-in-Token c =
    rw (c.in-Token.is, c.say-in-Token-3.ensures, c.say-in-Token-2.ensures, c.say-in-Token.ensures) refl
