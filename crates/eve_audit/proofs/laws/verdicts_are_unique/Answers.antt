use Rattle.eve_audit.proofs.OneVerdict.{one_verdict}
use Rattle.eve_audit.proofs.laws.verdicts_are_unique.Goals as goal

pub returns : goal.returns
returns c = λ bytes v w one other. one_verdict
    (λ t. record {
      parts = c.parts_stand_in_order.ensures t;
      committed = c.outcomes_come_of_steps.ensures.committed t;
      each_settled = c.outcomes_come_of_steps.ensures.settled t;
      transferred = c.outcomes_come_of_steps.ensures.transferred t;
    }) c.bytes_spell_one_trace.ensures bytes v w one other
