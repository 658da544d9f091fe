use Rattle.std.proofs.Common.{sym, ap, ◌∙◌}
use Rattle.std.specs.Prelude.{pos, int_lt}
use Rattle.std.specs.Fmt.{signed_decimal}
use Rattle.std.proofs.Common.{w64, rules}
use mir.Val.{SFits}
use Rattle.std.proofs.lemmas.Int.{to_z-of_z}
use Rattle.eve_workload.proofs.Decimals.{saving_outside}
use Rattle.eve_workload.proofs.numbers.saving.Goals as goal

pub returns-then-get-lt-LEAST_SAVING-clause-none : goal.returns-then-get-lt-LEAST_SAVING-clause-none
returns-then-get-lt-LEAST_SAVING-clause-none c =
    let fits : SFits w64 c.get.result = search rules in
    saving_outside c.args.word.now c.get.result
    (ap (λ z. int_lt z (pos 0)) (sym (to_z-of_z w64 c.get.result fits)) ∙ c.if-get-lt-LEAST_SAVING.true)
    c.get.ensures.range (c.in_ok-cents.ensures.spelled ∙ ap signed_decimal (sym c.get.ensures.value))
