use Rattle.std.proofs.Common.{refl}
use Rattle.eve_reasons.proofs.structure.say_transfer_numbers.Goals as goal

pub returns-in-Number : goal.returns-in-Number
returns-in-Number c = rw (c.in-Number.is, c.say_numbers.ensures) refl

pub returns-in-PastBatches : goal.returns-in-PastBatches
returns-in-PastBatches c = rw (c.in-PastBatches.is, c.say_numbers-in-PastBatches.ensures) refl

pub returns-in-View : goal.returns-in-View
returns-in-View c = rw (c.in-View.is, c.say_numbers-in-View.ensures) refl
