use Rattle.std.proofs.Common.{arith}
use Rattle.eve_grammar.proofs.HeadLimits.{few_customers}
use Rattle.eve_views.proofs.side_by_side.judge_and_go_on.Goals as goal

pub overflow_mul-rows : goal.overflow_mul-rows
overflow_mul-rows g c =
    let small = few_customers c.args.head c.requires.says.limits in
    record { fits = omega (arith, small) }
