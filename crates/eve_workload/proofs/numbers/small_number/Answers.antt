use Rattle.std.proofs.Common.{◌^◌, arith}
use Rattle.eve_workload.proofs.Decimals.{too_high}
use Rattle.eve_workload.proofs.numbers.small_number.Goals as goal

pub returns-then-value-clause-none : goal.returns-then-value-clause-none
returns-then-value-clause-none c = λ n low spelled.
    too_high c.args.word.now c.in_ok-value.value (2 ^ 32) n c.in_ok-value.ensures.spelled c.in_ok-value.ensures.small
    (omega arith) low spelled
