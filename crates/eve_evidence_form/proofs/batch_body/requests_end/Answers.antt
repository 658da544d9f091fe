use Rattle.std.proofs.Common.{◌≡◌, ℕ, None, Some, add-one, sym, ap, subst, ◌∙◌, arith}
use Rattle.eve_evidence_form.specs.Fields.{first_wrong_there}
use Rattle.eve_evidence_form.specs.BatchBody.{request_fields, request_end, request_place}
use Rattle.eve_evidence_form.proofs.FirstWrongFields.{part_right, part_wrong}
use Rattle.eve_evidence_form.proofs.batch_body.requests_end.Goals as goal

pub returns-in-Some-clause-wrong : goal.returns-in-Some-clause-wrong
returns-in-Some-clause-wrong c =
    let body = c.args.body.now in
    let i = c.loop-i._i in
    let wrong = c.in-Some.wrong in
    part_wrong (λ i. request_fields (request_place c.args.from body i) body) i c.args.count wrong (omega arith)
    c.loop-i.invariant.right
    (subst (λ (at : ℕ). Some wrong ≡ first_wrong_there (request_fields at body)) c.loop-i.invariant.place
    c.in-Some.ensures)

pub loop-i-preserved : goal.loop-i-preserved
loop-i-preserved c =
    let body = c.args.body.now in
    let from = c.args.from in
    let i = c.loop-i._i in
    record {
      right = part_right (λ i. request_fields (request_place from body i) body) i c.loop-i.invariant.right
          (subst (λ (at : ℕ). None ≡ first_wrong_there (request_fields at body)) c.loop-i.invariant.place
          c.in_default.ensures);
      place = c.request_end-at.ensures.place ∙ ap (λ (at : ℕ). request_end at body) c.loop-i.invariant.place
          ∙ ap (request_place from body) (sym (add-one i));
      near = omega (arith, c.request_end-at.ensures.near);
    }
