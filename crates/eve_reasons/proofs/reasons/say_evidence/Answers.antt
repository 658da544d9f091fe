use Rattle.std.proofs.Common.{refl}
use Rattle.eve_reasons.proofs.reasons.say_evidence.Goals as goal

pub returns-in-SameRequest : goal.returns-in-SameRequest
returns-in-SameRequest c = rw (c.in-SameRequest.is, c.say_same_request.ensures) refl
