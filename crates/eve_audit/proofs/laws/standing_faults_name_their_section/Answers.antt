use Rattle.eve_audit.proofs.FaultReplicas.{standing_named}
use Rattle.eve_audit.proofs.laws.standing_faults_name_their_section.Goals as goal

pub returns : goal.returns
returns c = λ bytes f fits stands.
    standing_named (λ t. record {
      parts = c.parts_stand_in_order.ensures t;
      committed = c.outcomes_come_of_steps.ensures.committed t;
      each_settled = c.outcomes_come_of_steps.ensures.settled t;
      transferred = c.outcomes_come_of_steps.ensures.transferred t;
    })
    c.bytes_spell_one_trace.ensures bytes f (λ g t is. c.form_is_decided.ensures.apart bytes g t fits is) stands
