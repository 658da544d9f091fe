use Rattle.eve_views.specs.Form.{IsLeast, IsFaultOutside}
use Rattle.eve_audit.specs.declared.verdict.Verdict.TheVariants.{No}
use Rattle.eve_audit.specs.Answer.{IsAnswer}
use Rattle.eve_audit.proofs.AnswerLaws.{form_for, no_for}
use Rattle.eve_audit.proofs.FirstFaults.{found_weaker, order_first}
use Rattle.eve_history.specs.Order.{StandsInOrders}
use Rattle.eve_audit.proofs.auditing.open.Goals as goal

pub returns-clause-fault : goal.returns-clause-fault
returns-clause-fault g c =
    let bytes = c.args.bytes.now in
    let t = c.in-Ok.trace in
    found_weaker (IsLeast (IsFaultOutside StandsInOrders t)) (λ f. IsAnswer bytes (No f))
    c.in-Err-orders.why
    (λ f least. no_for bytes t (record { spells = c.in-Ok.ensures.trace; none = c.in-Ok.ensures.faultless })
    (λ u other. c.bytes_spell_one_trace.ensures bytes u t other c.in-Ok.ensures.trace)
    (c.bytes_are_as_long_as_their_trace.ensures bytes t c.in-Ok.ensures.trace) (c.faults_lie_within.ensures.orders t)
    (record {
      parts = c.parts_stand_in_order.ensures t;
      committed = c.outcomes_come_of_steps.ensures.committed t;
      each_settled = c.outcomes_come_of_steps.ensures.settled t;
      transferred = c.outcomes_come_of_steps.ensures.transferred t;
    }) f (order_first t f least))
    c.in-Err-orders.ensures.least

pub returns-in-Err-clause-fault : goal.returns-in-Err-clause-fault
returns-in-Err-clause-fault g c =
    form_for c.args.bytes.now c.in-Err.why c.in-Err.ensures.least c.in-Err.ensures.no_trace
    c.in-Err.ensures.within
