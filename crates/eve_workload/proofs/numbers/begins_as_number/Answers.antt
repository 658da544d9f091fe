use Rattle.std.proofs.Common.{ℕ, ap, arith}
use Rattle.std.specs.Prelude.{not, slice_index}
use Rattle.std.proofs.lemmas.Bool.{eq-eqb, ne_eqb}
use Rattle.eve_workload.proofs.numbers.begins_as_number.Goals as goal

pub returns-in-len1-up : goal.returns-in-len1-up
returns-in-len1-up c =
    let first : ℕ = slice_index c.args.word.now 0 in (
      λ tested. record { some = omega arith; leads = λ zero. cc (ap not (eq-eqb first 48 zero)) },
      λ begins. ap not (ne_eqb first 48 (λ zero. omega (arith, begins.leads zero))),
    )
