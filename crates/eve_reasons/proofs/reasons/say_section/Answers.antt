use Rattle.std.proofs.Common.{refl}
use Rattle.eve_reasons.proofs.reasons.say_section.Goals as goal

pub returns-in-Certificate : goal.returns-in-Certificate
returns-in-Certificate c = rw (c.in-Certificate.is, c.say_certificate.ensures) refl

pub returns-in-Access : goal.returns-in-Access
returns-in-Access c = rw (c.in-Access.is, c.say_record_place.ensures) refl

pub returns-in-WorkerOrder : goal.returns-in-WorkerOrder
returns-in-WorkerOrder c = rw (c.in-WorkerOrder.is, c.say_worker_order.ensures) refl

pub returns-in-Transfer : goal.returns-in-Transfer
returns-in-Transfer c = rw (c.in-Transfer.is, c.say_transfer_fault.ensures) refl

pub returns-in-Record : goal.returns-in-Record
returns-in-Record c = rw (c.in-Record.is, c.say_record.ensures) refl

pub returns-in-Chain : goal.returns-in-Chain
returns-in-Chain c = rw (c.in-Chain.is, c.say_chain.ensures) refl

pub returns-in-Token : goal.returns-in-Token
returns-in-Token c = rw (c.in-Token.is, c.say_token.ensures) refl
