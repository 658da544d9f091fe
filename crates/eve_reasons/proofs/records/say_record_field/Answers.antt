use Rattle.std.proofs.Common.{refl}
use Rattle.eve_reasons.proofs.records.say_record_field.Goals as goal

pub returns-in-Entries : goal.returns-in-Entries
returns-in-Entries c = rw (c.in-Entries.is, c.say-in-Entries-2.ensures, c.say-in-Entries.ensures, c.say.ensures) refl

pub returns-in-Row : goal.returns-in-Row
returns-in-Row c = rw (c.in-Row.is, c.say-in-Row-3.ensures, c.say-in-Row-2.ensures, c.say-in-Row.ensures) refl

pub returns-in-Kind : goal.returns-in-Kind
returns-in-Kind c = rw (c.in-Kind.is, c.say-in-Kind-3.ensures, c.say-in-Kind-2.ensures, c.say-in-Kind.ensures) refl

pub returns-in-After : goal.returns-in-After
returns-in-After c =
    rw (
      c.in-After.is,
      c.say-in-After-3.ensures,
      c.say-in-After-2.ensures,
      c.say-in-After.ensures,
    ) refl

pub returns-in-Reply : goal.returns-in-Reply
returns-in-Reply c =
    rw (c.in-Reply.is, c.say-in-Reply-3.ensures, c.say-in-Reply-2.ensures, c.say-in-Reply.ensures) refl
