use Rattle.std.proofs.Common.{refl}
use Rattle.eve_reasons.proofs.reasons.say_agreement.Goals as goal

pub returns-in-TwoDecisions : goal.returns-in-TwoDecisions
returns-in-TwoDecisions c = rw (c.in-TwoDecisions.is, c.say_two_decisions.ensures) refl

pub returns-in-TransferMajority : goal.returns-in-TransferMajority
returns-in-TransferMajority c = rw (c.in-TransferMajority.is, c.say_transfer_poll.ensures) refl

pub returns-in-Outcome : goal.returns-in-Outcome
returns-in-Outcome c = rw (c.in-Outcome.is, c.say_outcome.ensures) refl

pub returns-in-TransferState : goal.returns-in-TransferState
returns-in-TransferState c = rw (c.in-TransferState.is, c.say_state_fault.ensures) refl

pub returns-in-Reply : goal.returns-in-Reply
returns-in-Reply c = rw (c.in-Reply.is, c.say_sent_fault.ensures) refl
