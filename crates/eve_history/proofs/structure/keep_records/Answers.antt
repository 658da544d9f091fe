use Rattle.std.proofs.Common.{ℕ, ◌<◌, List, [], ◌∷◌, ◌++◌, map, length, get_or, take, ap, sym, ◌∙◌, append_assoc}
use Rattle.std.proofs.Common.{arith}
use Rattle.std.proofs.lemmas.List.{map-append, take_more, append-nil}
use Rattle.eve_grammar.proofs.Lists.{all-get_or}
use Rattle.eve_history.proofs.structure.keep_records.Goals as goal

pub loop-index-init : goal.loop-index-init
loop-index-init c = sym (append-nil c.args.records.now.items)

pub offset-requires : goal.offset-requires
offset-requires c = all-get_or _ c.args.order.now c.loop-index.index-index 0 c.requires (omega arith)

pub loop-index-preserved : goal.loop-index-preserved
loop-index-preserved c =
    let order = c.args.order.now in
    let old = c.args.records.now.items in
    let i = c.loop-index.index-index in
    let within : i < length order = omega arith in
    let place : ℕ → ℕ = λ j. get_or c.args.marks.now.offsets j 0 in
    c.in_ok-push.ensures.items ∙ ap (λ (ys : List ℕ). ys ++ c.offset.result ∷ []) c.loop-index.invariant
    ∙ ap (λ (y : ℕ). (old ++ map place (take i order)) ++ y ∷ []) c.offset.ensures
    ∙ append_assoc old (map place (take i order)) (place (get_or order i 0) ∷ [])
    ∙ ap (λ (ys : List ℕ). old ++ ys) (sym (map-append place (take i order) (get_or order i 0 ∷ []))
    ∙ ap (map place) (sym (take_more order i 0 within)))
