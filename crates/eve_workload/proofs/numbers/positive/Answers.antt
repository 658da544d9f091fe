use Rattle.eve_workload.proofs.Decimals.{positive_outside}
use Rattle.eve_workload.proofs.Options.{none_map}
use Rattle.eve_workload.proofs.numbers.positive.Goals as goal

pub returns-in-Some-clause-none : goal.returns-in-Some-clause-none
returns-in-Some-clause-none c =
    none_map c.not_below_zero.result _ _
    (λ high. positive_outside c.args.word.now c.in-Some.value c.in-Some.ensures.spelled c.in-Some.ensures.small high
    c.requires) c.not_below_zero.ensures.none
