use Rattle.eve_audit.proofs.FaultOffsets.{stands_within}
use Rattle.eve_audit.proofs.laws.standing_faults_lie_within.Goals as goal

pub returns : goal.returns
returns c =
    stands_within c.bytes_are_as_long_as_their_trace.ensures (λ t f is. c.faults_lie_within.ensures.orders t f is)
    (λ t. record {
      parts = c.parts_stand_in_order.ensures t;
      committed = c.outcomes_come_of_steps.ensures.committed t;
      each_settled = c.outcomes_come_of_steps.ensures.settled t;
      transferred = c.outcomes_come_of_steps.ensures.transferred t;
    })
