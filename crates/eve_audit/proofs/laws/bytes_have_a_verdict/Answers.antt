use Rattle.eve_audit.proofs.FittingRecords.{fits_decided}
use Rattle.eve_audit.proofs.SomeVerdict.{some_verdict}
use Rattle.eve_audit.proofs.laws.bytes_have_a_verdict.Goals as goal

pub returns : goal.returns
returns c = λ bytes all_bytes.
    some_verdict (fits_decided c.requests_fit.ensures c.fitting_records_are_of_what_they_saw.ensures)
    c.bytes_spell_one_trace.ensures c.spelled_parts_are_within_limits.ensures.within
    c.right_heads_have_limits.ensures.limits
    (λ t limits n view token. c.decided_commits_have_a_vote.ensures t n view token limits)
    c.faults_lie_within.ensures.orders
    (λ t. record {
      parts = c.parts_stand_in_order.ensures t;
      committed = c.outcomes_come_of_steps.ensures.committed t;
      each_settled = c.outcomes_come_of_steps.ensures.settled t;
      transferred = c.outcomes_come_of_steps.ensures.transferred t;
    }) bytes
    (c.form_is_decided.ensures.decided bytes all_bytes)
    (λ f t is. c.form_is_decided.ensures.apart bytes f t all_bytes is)
