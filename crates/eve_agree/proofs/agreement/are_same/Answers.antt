use Rattle.std.proofs.Common.{◌≡◌, sym, ◌∙◌}
use Rattle.std.specs.Ordering.{int_eq}
use Rattle.std.specs.Cmp.Lexicographic.{pointwise}
use Rattle.std.specs.Cmp.Rules.{signed_items}
use Rattle.eve_agree.proofs.agreement.are_same.Goals as goal

pub returns : goal.returns
returns c =
    let told = signed_items c.args.balances.now c.args.others.now in
    let is : c.eq.result ≡ pointwise int_eq c.args.balances.now c.args.others.now = c.eq.ensures
    ∙ (λ k. pointwise int_eq (c.as_slice.ensures k) (c.as_slice-2.ensures k)) in
    (λ yes. told.0 (sym is ∙ yes), λ same. is ∙ told.1 same)
