use Rattle.std.proofs.Common.{◌≡◌, take, get_or, arith, ap, subst, refl, ◌∙◌}
use Rattle.std.specs.Str.Parse.{digits_value, AllDigits}
use Rattle.std.proofs.lemmas.List.{take_all}
use Rattle.eve_workload.proofs.Decimals.{number_more, number_stops, number_begins, number_whole}
use Rattle.eve_workload.proofs.Options.{on_none}
use Rattle.eve_workload.proofs.numbers.number.Goals as goal

pub returns-then-not-begins_as_number-clause-none : goal.returns-then-not-begins_as_number-clause-none
returns-then-not-begins_as_number-clause-none c = λ n small spelled.
    let begins = c.begins_as_number.ensures.1 (number_begins c.args.word.now n small spelled) in cc

pub returns-in_err-value-clause-none : goal.returns-in_err-value-clause-none
returns-in_err-value-clause-none c =
    on_none c.from_residual.result _
    (λ n small. number_stops c.args.word.now c.loop-digit.digit-index c.loop-digit.value
    (get_or c.args.word.now c.loop-digit.digit-index 0) n (omega arith) refl c.loop-digit.invariant.0
    c.in_err-value.ensures.none small)

pub loop-digit-preserved : goal.loop-digit-preserved
loop-digit-preserved c =
    let more = c.in_ok-value.ensures.more in
    let next = number_more c.args.word.now c.loop-digit.digit-index c.loop-digit.value
    (get_or c.args.word.now c.loop-digit.digit-index 0) c.in_ok-value.value
    (omega arith) refl c.loop-digit.invariant.0 c.loop-digit.invariant.1 more.0 more.1 more.2 in
    (next.0, next.1, more.3)

pub returns-clause-spelled : goal.returns-clause-spelled
returns-clause-spelled c =
    let whole : take c.loop-digit.digit-index c.args.word.now ≡ c.args.word.now =
    take_all c.loop-digit.digit-index c.args.word.now (omega arith) in
    number_whole c.args.word.now c.loop-digit.value (c.begins_as_number.ensures.0 cc)
    (c.loop-digit.invariant.0 ∙ ap (digits_value 10) whole) (subst (AllDigits 10) whole c.loop-digit.invariant.1)
    c.loop-digit.invariant.2
