use Rattle.std.proofs.Common.{◌≡◌, ◌+◌, ◌*◌, Bool, true, false, [], ◌∷◌, Some, sym, ap, ◌∙◌, arith, rules}
use Rattle.eve_evidence.specs.declared.evidence.BodyField.TheVariants as name
use Rattle.eve_evidence_form.specs.Fields.{field, first_wrong_there, stand}
use Rattle.eve_evidence_form.specs.AttemptBody.{index_fields}
use Rattle.eve_evidence_form.proofs.FirstWrongFields.{part_right, part_wrong}
use Rattle.eve_evidence_form.proofs.attempt_body.wrong_index.Goals as goal

pub returns-then-not-stand : goal.returns-then-not-stand
returns-then-not-stand c =
    let body = c.args.body.now in
    let i = c.loop-i.i in
    let no : stand 2 (11 + 2 * i) body ≡ false = search rules in
    let here : Some c.there.result ≡ first_wrong_there (index_fields (11 + 2 * i) body) =
    ap Some c.there.ensures ∙ ap (λ (b : Bool). first_wrong_there (field name.Index (11 + 2 * i) b ∷ [])) (sym no) in
    part_wrong (λ i. index_fields (11 + 2 * i) body) i c.args.count c.there.result (omega arith) c.loop-i.invariant here

pub loop-i-preserved : goal.loop-i-preserved
loop-i-preserved c =
    let body = c.args.body.now in
    let i = c.loop-i.i in
    let yes : stand 2 (11 + 2 * i) body ≡ true = search rules in
    part_right (λ i. index_fields (11 + 2 * i) body) i c.loop-i.invariant
    (ap (λ (b : Bool). first_wrong_there (field name.Index (11 + 2 * i) b ∷ [])) (sym yes))
