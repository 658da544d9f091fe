use Rattle.std.proofs.Common.{ℕ, Option, Some, sym, ap, ◌∙◌, nat_le, arith}
use Rattle.std.proofs.lemmas.Bool.{le-leb, cond-true}
use Rattle.eve_views.specs.Least.{lower}
use Rattle.eve_views.proofs.least.lower.Goals as goal

pub returns-in-Some : goal.returns-in-Some
returns-in-Some c =
    let before = c.in-Some.before in
    let n = c.args.number in
    sym (ap (λ (o : Option ℕ). lower o n) c.in-Some.is
    ∙ cond-true (nat_le before n) (Some before) (Some n) (le-leb before n (omega arith)))
