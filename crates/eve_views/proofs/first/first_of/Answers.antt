use Rattle.std.proofs.Common.{◌≡◌, true, Some, sym, ◌∙◌}
use Rattle.std.proofs.lemmas.Bool.{cond-true}
use Rattle.eve_views.specs.First.{is_before, first_of}
use Rattle.eve_views.proofs.first.first_of.Goals as goal

pub returns-then-is_before : goal.returns-then-is_before
returns-then-is_before c =
    let found = c.in-Some-Some.found in
    let fault = c.in-Some-Some.fault in
    let before : is_before found fault ≡ true = sym c.is_before.ensures ∙ c.if-is_before.true in
    sym ((λ i. first_of (c.in-Some-Some.is-0 i) (c.in-Some-Some.is-1 i))
    ∙ cond-true (is_before found fault) (Some found) (Some fault) before)
