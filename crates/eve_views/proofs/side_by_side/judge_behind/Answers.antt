use Rattle.std.proofs.Common.{◌∙◌, ap, drop, arith}
use Rattle.eve_grammar.specs.Limits.{row_count}
use Rattle.eve_grammar.proofs.HeadLimits.{few_customers}
use Rattle.eve_views.proofs.UnjudgedFrames.{right_whole}
use Rattle.eve_views.proofs.side_by_side.judge_behind.Goals as goal

pub ended-requires-clause-right : goal.ended-requires-clause-right
ended-requires-clause-right g c =
    right_whole (row_count c.args.head) c.args.bytes.now c.args.walked.offsets.items c.split_at.result.1.now
    c.args.judged (c.split_at.ensures.back ∙ ap (drop c.args.judged) c.as_slice.ensures.value) c.requires.judged
    (c.are_right.ensures c.if-are_right.true)

pub overflow_mul-head : goal.overflow_mul-head
overflow_mul-head g c =
    let small = few_customers c.args.head c.requires.says.limits in
    record { fits = omega (arith, small) }

pub ended-requires-clause-walked : goal.ended-requires-clause-walked
ended-requires-clause-walked g c = c.requires.walked
