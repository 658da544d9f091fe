use Rattle.eve_test_traces.proofs.Two.{both_told, both_settled}
use Rattle.eve_test_traces.proofs.histories.agreement_of_two.Goals as goal

pub equal_balances-requires-clause-histories : goal.equal_balances-requires-clause-histories
equal_balances-requires-clause-histories g c =
    both_told c.args.trace.now c.in_ok-first.first c.in_ok-second.second c.requires.two
    c.in_ok-first.ensures.section_history c.in_ok-second.ensures.section_history

pub equal_balances-requires-clause-settled : goal.equal_balances-requires-clause-settled
equal_balances-requires-clause-settled g c =
    let first = rw (c.in_ok-first.ensures.replica) at c.in_ok-one.ensures.settled in
    let second = rw (c.in_ok-second.ensures.replica) at c.in_ok-other.ensures.settled in
    both_settled c.args.trace.now c.in_ok-one.one c.in_ok-other.other c.requires.two first second
