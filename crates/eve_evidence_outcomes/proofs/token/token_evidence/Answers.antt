use Rattle.std.proofs.Common.{arith}
use Rattle.eve_evidence_outcomes.proofs.Tokens.{none_other}
use Rattle.eve_evidence_outcomes.proofs.token.token_evidence.Goals as goal

pub unreachable-requires : goal.unreachable-requires
unreachable-requires c =
    none_other c.args.trace.now c.args.history.now.replica c.args.place c.args.settled.now c.loop-n.n c.requires.settled
    (omega (arith, c.loop-n-test.false, c.committed-n-end.ensures)) c.loop-n.invariant c.requires.stands
