use Rattle.std.proofs.Common.{inl, inr, refl}
use Rattle.eve_reasons.proofs.attempts.say_index.Goals as goal

pub returns-in-NoRequest : goal.returns-in-NoRequest
returns-in-NoRequest c =
    elim c.in-NoRequest.is [
      | inl is ↦ rw (is.1, c.say-in-NoRequest.ensures) refl
      | inr is ↦ rw (is, c.say-in-NoRequest.ensures) refl
    ]

pub returns-in-Again : goal.returns-in-Again
returns-in-Again c = rw (c.in-Again.is, c.say.ensures) refl

pub returns-in-BeforeGroup : goal.returns-in-BeforeGroup
returns-in-BeforeGroup c = rw (c.in-BeforeGroup.is, c.say-in-BeforeGroup.ensures) refl
