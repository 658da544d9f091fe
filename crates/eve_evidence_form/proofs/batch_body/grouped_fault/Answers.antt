use Rattle.std.proofs.Common.{◌≡◌, ℕ, ◌+◌, ◌*◌, false, List, None, Some, ap, subst, ◌∙◌}
use Rattle.eve_evidence.specs.declared.evidence.BodyField.TheVariants as name
use Rattle.eve_evidence_form.specs.Fields.{field, fields_of, first_wrong_there}
use Rattle.eve_evidence_form.specs.BatchBody.{size_sum, size_fields, request_fields, request_place, batch_end}
use Rattle.eve_evidence_form.specs.declared.fields.FieldThere.{FieldThere}
use Rattle.eve_evidence_form.proofs.FirstWrongFields.{told_in_prefix, told_behind, wrong_told, end_told}
use Rattle.eve_evidence_form.proofs.batch_body.grouped_fault.Goals as goal

-- the requests behind the sizes of this many parallelBatches, where there are this many
requests : ℕ → List ℕ → ℕ → List FieldThere
requests groups body = fields_of (λ i. request_fields (request_place (6 + 2 * groups) body i) body)

pub returns-in-Err : goal.returns-in-Err
unfolding requests
returns-in-Err c =
    let g = c.args.groups in
    let body = c.args.body.now in
    told_in_prefix (batch_end g body) (fields_of (size_fields body) g) (requests g body (size_sum g body))
    c.in-Err.wrong
    c.in-Err.ensures.wrong

pub returns-in-Err-requests_end : goal.returns-in-Err-requests_end
unfolding requests
returns-in-Err-requests_end c =
    let g = c.args.groups in
    let body = c.args.body.now in
    let wrong = c.in-Err-requests_end.wrong in
    told_behind (batch_end g body) (fields_of (size_fields body) g) (requests g body (size_sum g body)) wrong
    c.in-Ok.ensures.right
    (wrong_told (batch_end g body) (requests g body (size_sum g body)) wrong
    (subst (λ (n : ℕ). Some wrong ≡ first_wrong_there (requests g body n)) c.in-Ok.ensures.sum.0
    c.in-Err-requests_end.ensures.wrong))

pub returns-in-Ok-requests_end : goal.returns-in-Ok-requests_end
unfolding requests
returns-in-Ok-requests_end c =
    let g = c.args.groups in
    let body = c.args.body.now in
    let told = c.there.result in
    let sum = c.in-Ok.ensures.sum.0 in
    let end = c.in-Ok-requests_end.ensures.place.0 ∙ ap (request_place (6 + 2 * g) body) sum in
    let here : told ≡ field name.End (batch_end g body) false =
    c.there.ensures ∙ ap (λ (at : ℕ). field name.End at false) end in
    told_behind (batch_end g body) (fields_of (size_fields body) g) (requests g body (size_sum g body)) told
    c.in-Ok.ensures.right
    (here ∙ end_told (batch_end g body) (requests g body (size_sum g body))
    (subst (λ (n : ℕ). None ≡ first_wrong_there (requests g body n)) sum c.in-Ok-requests_end.ensures.right))
