use Rattle.std.proofs.Common.{refl}
use Rattle.eve_reasons.proofs.attempts.say_attempt_fault.Goals as goal

pub returns-in-PastBatches : goal.returns-in-PastBatches
returns-in-PastBatches c = rw (c.in-PastBatches.is, c.say_numbers-in-PastBatches.ensures) refl

pub returns-in-PastWindow : goal.returns-in-PastWindow
returns-in-PastWindow c = rw (c.in-PastWindow.is, c.say_numbers-in-PastWindow.ensures) refl

pub returns-in-View : goal.returns-in-View
returns-in-View c = rw (c.in-View.is, c.say_numbers-in-View.ensures) refl

pub returns-in-Requests : goal.returns-in-Requests
returns-in-Requests c = rw (c.in-Requests.is, c.say_numbers-in-Requests.ensures) refl

pub returns-in-Mode : goal.returns-in-Mode
returns-in-Mode c = rw (c.in-Mode.is, c.say-in-Mode-2.ensures, c.say-in-Mode.ensures, c.say.ensures) refl
