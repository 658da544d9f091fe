use Rattle.std.proofs.Common.{sym, ap, ◌∙◌}
use Rattle.std.specs.Fmt.{signed_decimal}
use Rattle.eve_accounts.specs.Money.{amount_of}
use Rattle.std.proofs.Common.{w64, rules}
use mir.Val.{SFits}
use Rattle.std.proofs.lemmas.Int.{to_z-of_z}
use Rattle.eve_workload.proofs.Decimals.{amount_outside}
use Rattle.eve_workload.proofs.numbers.amount.Goals as goal

pub returns-clause-none : goal.returns-clause-none
returns-clause-none c =
    let fits : SFits w64 c.get.result = search rules in
    amount_outside c.args.word.now c.get.result c.new.result
    (c.new.ensures ∙ ap amount_of (to_z-of_z w64 c.get.result fits)) c.get.ensures.range
    (c.in_ok-cents.ensures.spelled ∙ ap signed_decimal (sym c.get.ensures.value))
