-- What shows that a body is wrong: its first wrong field. docs/MODEL.md, "Evidence"; docs/TRACE.md, "Frames".
use Rattle.std.specs.Prelude.{◌≡◌, ℕ, ◌+◌, ◌*◌, List, [], take, drop, slice_index}
use Rattle.byteorder.specs.Endian.{big_number}
use Rattle.eve_grammar.specs.Kinds.{kind_byte}
use Rattle.eve_grammar.specs.Limits.{row_count}
use Rattle.eve_grammar.specs.declared.frame_kind.FrameKind.{FrameKind}
use Rattle.eve_grammar.specs.declared.frame_kind.FrameKind.TheVariants as kind
use Rattle.eve_grammar.specs.declared.frame_kind.TheConstants.{FRAME_HEAD_LEN}
use Rattle.eve_grammar.specs.declared.head.Head.{Head}
use Rattle.eve_grammar.specs.declared.place.Place.{Place}
use Rattle.eve_views.specs.Form.{IsReached, place_at}
use Rattle.eve_evidence.specs.declared.evidence.BodyField.{BodyField}
use Rattle.eve_evidence_form.specs.Header.{decoded}
use Rattle.eve_evidence_form.specs.Fields.{first_wrong_field}
use Rattle.eve_evidence_form.specs.PlainBody.{customer_fields, number_fields, commit_fields, vote_fields, sent_fields}
use Rattle.eve_evidence_form.specs.BatchBody.{batch_fields, batch_end}
use Rattle.eve_evidence_form.specs.AttemptBody.{attempt_fields}
use Rattle.eve_evidence_form.specs.AccessBody.{access_fields}
use Rattle.eve_evidence_form.specs.RowsBody.{rollback_fields, transfer_fields}
use Rattle.eve_evidence_form.specs.declared.fields.FieldThere.{FieldThere}

-- the first wrong field of the body of a frame of the kind at a place, or the byte behind the last
abbrev pub body_fault : Head → Place → FrameKind → List ℕ → FieldThere
body_fault h p kind.Customer body = first_wrong_field (17 + decoded 1 0 body) (customer_fields body)
body_fault h p kind.Batch body = first_wrong_field (batch_end (decoded 2 4 body) body)
    (batch_fields (p.batches + 1) body)
body_fault h p kind.Replica body = first_wrong_field 1 (number_fields p.replicas body)
body_fault h p kind.Attempt body = first_wrong_field (43 + 11 * decoded 2 9 body) (attempt_fields body)
body_fault h p kind.Access body = first_wrong_field (6 + 29 * decoded 1 5 body) (access_fields (row_count h) body)
body_fault h p kind.Commit body = first_wrong_field 40 (commit_fields body)
body_fault h p kind.Rollback body = first_wrong_field (12 + 20 * decoded 4 8 body) (rollback_fields (row_count h) body)
body_fault h p kind.Transfer body = first_wrong_field (8 + 16 * row_count h) (transfer_fields (row_count h) body)
body_fault h p kind.Verifier body = first_wrong_field 1 (number_fields p.verifiers body)
body_fault h p kind.Vote body = first_wrong_field 41 (vote_fields h.batches body)
body_fault h p kind.Sent body = first_wrong_field 26 (sent_fields h.replicas h.batches body)
body_fault h p kind.End body = first_wrong_field 0 []

-- the body of the frame at the beginning of bytes
abbrev pub first_body : List ℕ → List ℕ
first_body bytes = take (big_number 4 (drop 1 bytes)) (drop FRAME_HEAD_LEN bytes)

-- the frame at this byte is of this kind, and the first wrong field of its body begins at that byte
abbrev pub TellsBody : List ℕ → ℕ → FrameKind → BodyField → ℕ → Type 0
TellsBody bytes at k own own_at =
    (r : IsReached bytes at) × (f : FieldThere) × (kind_byte k ≡ slice_index (drop at bytes) 0)
    × (f ≡ body_fault r.head (place_at r) k (first_body (drop at bytes))) × (own ≡ f.field)
    × (own_at ≡ at + FRAME_HEAD_LEN + f.at)
