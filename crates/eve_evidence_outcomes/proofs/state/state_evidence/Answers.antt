use Rattle.std.proofs.Common.{length, ap, arith}
use Rattle.eve_chains.specs.CommittedValues.{Settling}
use Rattle.eve_evidence_outcomes.proofs.TransferredStates.{none_apart}
use Rattle.eve_evidence_outcomes.proofs.state.state_evidence.Goals as goal

pub at_number-requires-clause-number : goal.at_number-requires-clause-number
at_number-requires-clause-number c =
    omega (
      arith,
      c.loop-n-test.true,
      c.committed-count.ensures,
      ap (λ (x : Settling). length x.numbers) c.settled_at.ensures,
    )

pub unreachable-requires : goal.unreachable-requires
unreachable-requires c =
    none_apart c.args.trace.now c.args.e c.args.place c.settled_at.result.now c.loop-n.n c.settled_at.ensures
    (omega (arith, c.loop-n-test.false, c.committed-count.ensures)) c.loop-n.invariant c.requires.stands
