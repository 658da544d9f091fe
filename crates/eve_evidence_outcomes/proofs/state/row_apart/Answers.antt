use Rattle.eve_evidence_outcomes.proofs.FirstReplicas.{balances_long}
use Rattle.eve_evidence_outcomes.proofs.state.row_apart.Goals as goal

pub first_apart-requires-clause-own : goal.first_apart-requires-clause-own
first_apart-requires-clause-own c =
    balances_long c.args.trace.now c.args.e c.args.n c.in_ok-own.own c.in_ok-own.ensures

pub first_apart-requires-clause-its : goal.first_apart-requires-clause-its
first_apart-requires-clause-its c =
    balances_long c.args.trace.now c.args.f c.args.n c.in_ok-its.its c.in_ok-its.ensures
