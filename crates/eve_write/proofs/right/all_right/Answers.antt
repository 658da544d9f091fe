use Rattle.std.proofs.Common.{◌≡◌, true, false, get_or, sym, ap, ◌∙◌}
use Rattle.std.specs.List.{list_all}
use Rattle.std.proofs.lemmas.Bool.{and_from}
use Rattle.std.proofs.lemmas.List.{take_all}
use Rattle.std.proofs.lemmas.List.Folds.{list_all_at, list_all_more}
use Rattle.eve_write.proofs.right.all_right.Goals as goal

pub returns-then-not-is_right : goal.returns-then-not-is_right
returns-then-not-is_right g c =
    let test = g.T.Judge.right c.args.head.now in
    let items = c.args.items.now in
    let wrong : test (get_or items c.loop-item.item-index c.item-item.result) ≡ false = ap test (sym c.item-item.is)
    ∙ sym c.is_right.ensures ∙ c.if-not-is_right.true in
    sym (list_all_at test items c.loop-item.item-index c.item-item.result c.loop-item-test.true wrong)

pub loop-item-preserved : goal.loop-item-preserved
loop-item-preserved g c =
    let test = g.T.Judge.right c.args.head.now in
    let items = c.args.items.now in
    let right : test (get_or items c.loop-item.item-index c.item-item.result) ≡ true = ap test (sym c.item-item.is)
    ∙ sym c.is_right.ensures ∙ c.if-not-is_right.false in
    list_all_more test items c.loop-item.item-index c.item-item.result c.loop-item-test.true
    ∙ and_from _ _ c.loop-item.invariant right

pub returns : goal.returns
returns g c =
    let whole = take_all c.loop-item.item-index c.args.items.now c.loop-item-test.false in
    sym (ap (list_all (g.T.Judge.right c.args.head.now)) (sym whole) ∙ c.loop-item.invariant)
