use Rattle.eve_audit.proofs.AnswerLaws.{no_for, yes_for, whole_yes, whole_no}
use Rattle.eve_audit.proofs.auditing.verdict_on.Goals as goal

pub returns-in-Ok : goal.returns-in-Ok
returns-in-Ok g c = λ bytes read.
    let t = c.args.named.trace in
    whole_yes bytes t c.in-Ok.accepted read c.in-Ok.ensures.trace c.in-Ok.ensures.histories
    (yes_for bytes t read (λ u other. c.bytes_spell_one_trace.ensures bytes u t other read.spells)
    c.in-Ok.accepted.summary c.in-Ok.ensures.summary c.in-Ok.ensures.none
    (c.accepted_traces_are_audited.ensures t c.in-Ok.ensures.accepted))

pub returns-in-Err-Found : goal.returns-in-Err-Found
returns-in-Err-Found g c = λ bytes read.
    let t = c.args.named.trace in
    whole_no bytes c.in-Err-Found.fault
    (no_for bytes t read (λ u other. c.bytes_spell_one_trace.ensures bytes u t other read.spells)
    (c.bytes_are_as_long_as_their_trace.ensures bytes t read.spells) (c.faults_lie_within.ensures.orders t)
    (record {
      parts = c.parts_stand_in_order.ensures t;
      committed = c.outcomes_come_of_steps.ensures.committed t;
      each_settled = c.outcomes_come_of_steps.ensures.settled t;
      transferred = c.outcomes_come_of_steps.ensures.transferred t;
    })
    c.in-Err-Found.fault (rw c.in-Err-Found.field-0-is at c.in-Err-Found.ensures.first))
