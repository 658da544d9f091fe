use Rattle.std.proofs.Common.{refl}
use Rattle.eve_reasons.proofs.outcomes.say_sent_wrong.Goals as goal

pub returns-in-NoRequest : goal.returns-in-NoRequest
returns-in-NoRequest c = rw c.in-NoRequest.is c.say.ensures

pub returns-in-NotCommitted : goal.returns-in-NotCommitted
returns-in-NotCommitted c = rw c.in-NotCommitted.is (rw (c.say_given.ensures, c.say-in-NotCommitted.ensures) refl)

pub returns-in-Another : goal.returns-in-Another
returns-in-Another c =
    rw (
      c.in-Another.is,
      c.say_given-in-Another.ensures,
      c.say-in-Another-3.ensures,
      c.say-in-Another-2.ensures,
      c.say-in-Another.ensures,
    )
    refl
