use Rattle.std.proofs.Common.{◌≡◌, ℕ, ◌+◌, ◌*◌, Bool, true, false, [], ◌∷◌, Some, add-one, sym, ap, subst, ◌∙◌, arith}
use Rattle.eve_evidence.specs.declared.evidence.BodyField.TheVariants as name
use Rattle.eve_evidence_form.specs.Fields.{field, first_wrong_there}
use Rattle.eve_evidence_form.specs.BatchBody.{size_sum, stands_size, size_fields}
use Rattle.eve_evidence_form.proofs.FirstWrongFields.{part_right, part_wrong}
use Rattle.eve_evidence_form.proofs.batch_body.requests_due.Goals as goal

pub returns-in-None-clause-wrong : goal.returns-in-None-clause-wrong
returns-in-None-clause-wrong c =
    let body = c.args.body.now in
    let i = c.loop-i.i in
    let at = 6 + 2 * i in
    let no : stands_size (size_sum i body) at body ≡ false =
    subst (λ (sum : ℕ). stands_size sum at body ≡ false) c.loop-i.invariant.sum c.in-None.ensures.wrong in
    let here : Some c.there.result ≡ first_wrong_there (size_fields body i) =
    ap Some c.there.ensures ∙ ap (λ (b : Bool). first_wrong_there (field name.Size at b ∷ [])) (sym no) in
    part_wrong (size_fields body) i c.args.groups c.there.result (omega arith) c.loop-i.invariant.right here

pub loop-i-preserved : goal.loop-i-preserved
loop-i-preserved c =
    let body = c.args.body.now in
    let i = c.loop-i.i in
    let at = 6 + 2 * i in
    let sized = c.in-Some.ensures.right in
    let yes : stands_size (size_sum i body) at body ≡ true =
    subst (λ (sum : ℕ). stands_size sum at body ≡ true) c.loop-i.invariant.sum sized.0 in
    record {
      right = part_right (size_fields body) i c.loop-i.invariant.right
          (ap (λ (b : Bool). first_wrong_there (field name.Size at b ∷ [])) (sym yes));
      sum = omega (arith, sized.1, c.loop-i.invariant.sum, ap (λ (n : ℕ). size_sum n body) (add-one i));
      few = sized.2;
    }
