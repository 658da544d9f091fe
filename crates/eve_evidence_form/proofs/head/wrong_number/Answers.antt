use Rattle.std.proofs.Common.{◌≡◌, List, refl, subst, rules}
use Rattle.std.specs.List.{AllByRecursion}
use Rattle.eve_views.specs.Form.{SomePlace}
use Rattle.eve_evidence.proofs.Lists.{all_more, place_at}
use Rattle.eve_evidence_form.specs.declared.head.HeadNumber.{HeadNumber}
use Rattle.eve_evidence_form.specs.Header.{LiesWithin}
use Rattle.eve_evidence_form.proofs.head.wrong_number.Goals as goal

pub returns-then-not-lies_within-clause-first : goal.returns-then-not-lies_within-clause-first
returns-then-not-lies_within-clause-first c =
    let n = c.item_at-number.result in
    subst (λ (ns : List HeadNumber). SomePlace ns (λ before m. (m ≡ n) × AllByRecursion LiesWithin before
    × ¬ LiesWithin m)) c.head_numbers-numbers.ensures
    (place_at _ c.head_numbers-numbers.result c.loop-i.i n c.item_at-number.ensures
    (refl, c.loop-i.invariant, c.lies_within.ensures.no (search rules)))

pub loop-i-preserved : goal.loop-i-preserved
loop-i-preserved c =
    all_more LiesWithin c.head_numbers-numbers.result c.loop-i.i c.item_at-number.result c.item_at-number.ensures
    c.loop-i.invariant (c.lies_within.ensures.yes (search rules))
