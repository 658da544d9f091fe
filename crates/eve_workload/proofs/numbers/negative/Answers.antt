use Rattle.eve_workload.proofs.Decimals.{negative_unread, negative_outside}
use Rattle.eve_workload.proofs.Options.{none_map}
use Rattle.eve_workload.proofs.numbers.negative.Goals as goal

pub returns-in-Some-clause-none : goal.returns-in-Some-clause-none
returns-in-Some-clause-none c =
    none_map c.below_zero.result _ _
    (negative_outside c.args.digits.now c.in-Some.value c.in-Some.ensures.spelled c.in-Some.ensures.small)
    c.below_zero.ensures.none

pub returns-in-None-clause-none : goal.returns-in-None-clause-none
returns-in-None-clause-none c = negative_unread c.args.digits.now c.in-None.ensures.none
