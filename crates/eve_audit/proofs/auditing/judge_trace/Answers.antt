use Rattle.std.proofs.Common.{◌≤◌, length}
use Rattle.eve_grammar.specs.Trace.{head_of}
use Rattle.eve_audit.specs.Verdict.{IsCommonFault, IsTraceFault}
use Rattle.eve_audit.specs.Reports.{IsFirstOf, IsFaultBelow}
use Rattle.eve_audit.proofs.FirstFaults.{found_weaker, section_first, common_first, none_in_trace}
use Rattle.eve_audit.proofs.Verdicts.{summary_is}
use Rattle.eve_audit.proofs.Accepted.{no_request_again, accepted_of}
use Rattle.eve_audit.proofs.auditing.judge_trace.Goals as goal

pub returns-in-Err-clause-first : goal.returns-in-Err-clause-first
returns-in-Err-clause-first g c =
    let t = c.args.named.trace in
    found_weaker (IsFirstOf (IsFaultBelow t (length t.sections))) (IsFirstOf (IsTraceFault t)) c.in-Err.why
    (λ f found. section_first t f c.requires.orders found) c.in-Err.ensures.first

pub returns-in-Err-judge_together-clause-first : goal.returns-in-Err-judge_together-clause-first
returns-in-Err-judge_together-clause-first g c =
    let t = c.args.named.trace in
    found_weaker (IsFirstOf (IsCommonFault t)) (IsFirstOf (IsTraceFault t)) c.in-Err-judge_together.why
    (λ f found. common_first t f c.requires.orders c.in-Ok.ensures.none found) c.in-Err-judge_together.ensures.first

pub returns-clause-histories : goal.returns-clause-histories
returns-clause-histories g c = c.in-Ok.ensures.histories

pub returns-clause-summary : goal.returns-clause-summary
returns-clause-summary g c =
    let t = c.args.named.trace in
    let some : 1 ≤ length t.sections =
    (c.right_heads_have_limits.ensures.limits (head_of t) c.recall_limits.ensures.head).some_replicas in
    summary_is t _ c.section_count.ensures c.batch_count.ensures some c.in-Ok.ensures.committed

pub returns-clause-accepted : goal.returns-clause-accepted
returns-clause-accepted g c =
    let t = c.args.named.trace in
    accepted_of t c.recall_limits.ensures
    (c.requests_take_effect_once.ensures.apart t (no_request_again t c.requires.orders)) c.in-Ok.ensures.sound
    c.in-Ok-judge_together.ensures.sound

pub returns-clause-none : goal.returns-clause-none
returns-clause-none g c = none_in_trace c.args.named.trace c.requires.orders c.in-Ok.ensures.none
    c.in-Ok-judge_together.ensures.none
