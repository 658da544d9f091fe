use Rattle.eve_history.proofs.OrderLaws.{none_twice}
use Rattle.eve_history.proofs.order.orders.Goals as goal

pub returns-clause-none : goal.returns-clause-none
returns-clause-none c = none_twice c.args.trace.now c.in_ok-names.ensures.apart
    c.in_ok-requests_apart.ensures.apart
