use Rattle.std.proofs.Common.{◌≡◌, ◌+◌, ◌*◌, [], ◌∷◌, ◌++◌, rules}
use Rattle.eve_evidence.specs.declared.evidence.BodyField.TheVariants as name
use Rattle.eve_evidence_form.specs.Fields.{field, fields_of, first_wrong_field, stand, reply_fields}
use Rattle.eve_evidence_form.specs.AttemptBody.{index_fields}
use Rattle.eve_evidence_form.proofs.FirstWrongFields.{told_in_prefix, told_behind}
use Rattle.eve_evidence_form.proofs.attempt_body.certified_fault.Goals as goal

pub returns-in-Some : goal.returns-in-Some
returns-in-Some c =
    let n = c.args.count in
    let body = c.args.body.now in
    told_in_prefix (43 + 11 * n) (fields_of (λ i. index_fields (11 + 2 * i) body) n)
    (fields_of (λ i. reply_fields (11 + 2 * n + 9 * i) body) n
    ++ field name.Token (11 + 11 * n) (stand 32 (11 + 11 * n) body) ∷ [])
    c.in-Some.wrong c.in-Some.ensures

pub returns-in-Some-wrong_in_replies : goal.returns-in-Some-wrong_in_replies
returns-in-Some-wrong_in_replies c =
    let n = c.args.count in
    let body = c.args.body.now in
    let replies = fields_of (λ i. reply_fields (11 + 2 * n + 9 * i) body) n in
    let token = field name.Token (11 + 11 * n) (stand 32 (11 + 11 * n) body) ∷ [] in
    let wrong = c.in-Some-wrong_in_replies.wrong in
    told_behind (43 + 11 * n) (fields_of (λ i. index_fields (11 + 2 * i) body) n) (replies ++ token) wrong
    c.in_default.ensures (told_in_prefix (43 + 11 * n) replies token wrong c.in-Some-wrong_in_replies.ensures)

pub returns : goal.returns
returns c =
    let n = c.args.count in
    let body = c.args.body.now in
    let replies = fields_of (λ i. reply_fields (11 + 2 * n + 9 * i) body) n in
    let token = field name.Token (11 + 11 * n) (stand 32 (11 + 11 * n) body) ∷ [] in
    let told = c.first_wrong_field.result in
    let last : told ≡ first_wrong_field (43 + 11 * n) token = search rules in
    told_behind (43 + 11 * n) (fields_of (λ i. index_fields (11 + 2 * i) body) n) (replies ++ token) told
    c.in_default.ensures (told_behind (43 + 11 * n) replies token told c.in_default-wrong_in_replies.ensures last)
