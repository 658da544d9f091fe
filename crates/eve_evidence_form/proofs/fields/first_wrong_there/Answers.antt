use Rattle.std.proofs.Common.{◌≡◌, ◌+◌, Bool, true, false, [], ◌∷◌}
use Rattle.std.proofs.Common.{drop, if◌then◌else◌, Some, sym, ap, ◌∙◌, arith, rules}
use Rattle.std.proofs.lemmas.List.{length-drop, nil_from_length}
use Rattle.eve_grammar.proofs.Lists.{drop_here}
use Rattle.eve_evidence_form.specs.Fields.{first_wrong_there}
use Rattle.eve_evidence_form.proofs.fields.first_wrong_there.Goals as goal

pub returns-then-not-own : goal.returns-then-not-own
returns-then-not-own c =
    let own = c.item_at-own.result in
    let rest = drop (c.loop-i.i + 1) c.args.fields.now in
    let here = ap first_wrong_there (drop_here c.args.fields.now c.loop-i.i own c.item_at-own.ensures) in
    let no : own.right ≡ false = search rules in
    let wrong : first_wrong_there (own ∷ rest) ≡ Some own = ap
    (λ (b : Bool). if b then first_wrong_there rest else Some own) no in
    sym (here ∙ wrong) ∙ c.loop-i.invariant

pub loop-i-preserved : goal.loop-i-preserved
loop-i-preserved c =
    let own = c.item_at-own.result in
    let rest = drop (c.loop-i.i + 1) c.args.fields.now in
    let here = ap first_wrong_there (drop_here c.args.fields.now c.loop-i.i own c.item_at-own.ensures) in
    let yes : own.right ≡ true = search rules in
    let right : first_wrong_there (own ∷ rest) ≡ first_wrong_there rest =
    ap (λ (b : Bool). if b then first_wrong_there rest else Some own) yes in
    sym (here ∙ right) ∙ c.loop-i.invariant

pub returns : goal.returns
returns c =
    let none : drop c.loop-i.i c.args.fields.now ≡ [] =
    nil_from_length (drop c.loop-i.i c.args.fields.now) (omega (arith, length-drop c.loop-i.i c.args.fields.now)) in
    ap first_wrong_there (sym none) ∙ c.loop-i.invariant
