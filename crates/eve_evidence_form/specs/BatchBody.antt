-- The fields of a Batch frame's body. docs/TRACE.md, "Frames" and "Parts".
use Rattle.std.specs.Prelude.{ℕ, zero, suc, ◌+◌, ◌*◌, nat_le, ◌==◌, Bool, ◌&&◌, if◌then◌else◌, List, [], ◌∷◌, ◌++◌}
use Rattle.eve_grammar.specs.declared.limits.TheConstants.{MOST_REQUESTS}
use Rattle.eve_evidence.specs.declared.evidence.BodyField.TheVariants as name
use Rattle.eve_evidence_form.specs.Header.{decoded}
use Rattle.eve_evidence_form.specs.Fields.{field, fields_of, stand, stands_between, stands_amount, named_fields}
use Rattle.eve_evidence_form.specs.declared.fields.FieldThere.{FieldThere}

-- ---- sizes

-- the sum of the first n sizes of parallelBatches
abbrev pub size_sum : ℕ → List ℕ → ℕ
size_sum zero body = 0
size_sum (suc n) body = size_sum n body + decoded 2 (6 + 2 * n) body

-- a size of one or more stands there, and with the sum of those before it no more requests than a batch may have
abbrev pub stands_size : ℕ → ℕ → List ℕ → Bool
stands_size sum at body =
    stand 2 at body && (nat_le 1 (decoded 2 at body) && nat_le (sum + decoded 2 at body) MOST_REQUESTS)

-- the size with this index
abbrev pub size_fields : List ℕ → ℕ → List FieldThere
size_fields body i = field name.Size (6 + 2 * i) (stands_size (size_sum i body) (6 + 2 * i) body) ∷ []

-- ---- requests

-- what follows the first name of a request of this code: a second name, an amount, or nothing
abbrev pub coded_fields : ℕ → ℕ → List ℕ → List FieldThere
coded_fields code at body =
    if code == 1 then []
    else if code == 4 then named_fields name.SecondLength name.SecondName at body
    else field name.Amount at (stands_amount at body) ∷ []

-- how many bytes that has
abbrev pub coded_len : ℕ → ℕ → List ℕ → ℕ
coded_len code at body = if code == 1 then 0 else if code == 4 then 1 + decoded 1 at body else 8

-- the place behind the first name of the request at this place
abbrev pub coded_place : ℕ → List ℕ → ℕ
coded_place at body = at + 14 + decoded 1 (at + 13) body

-- the request at this place: a client, a number, a code, a name, and what follows it
abbrev pub request_fields : ℕ → List ℕ → List FieldThere
request_fields at body =
    field name.Client at (stand 4 at body) ∷ field name.Number (at + 4) (stand 8 (at + 4) body)
    ∷ field name.Code (at + 12) (stands_between 1 5 1 (at + 12) body)
    ∷ (named_fields name.Length name.Name (at + 13) body
    ++ coded_fields (decoded 1 (at + 12) body) (coded_place at body) body)

-- the place behind the request at this place
abbrev pub request_end : ℕ → List ℕ → ℕ
request_end at body = coded_place at body + coded_len (decoded 1 (at + 12) body) (coded_place at body) body

-- the place of the request with this index, where the first stands at the place from
abbrev pub request_place : ℕ → List ℕ → ℕ → ℕ
request_place from body zero = from
request_place from body (suc i) = request_end (request_place from body i) body

-- ---- the whole

-- the sizes of this many parallelBatches, and the requests
abbrev pub grouped_fields : ℕ → List ℕ → List FieldThere
grouped_fields groups body =
    fields_of (size_fields body) groups
    ++ fields_of (λ i. request_fields (request_place (6 + 2 * groups) body i) body) (size_sum groups body)

-- the number that is due, how many parallelBatches there are, one or more, their sizes, and the requests
abbrev pub batch_fields : ℕ → List ℕ → List FieldThere
batch_fields due body =
    field name.Number 0 (stands_between due due 4 0 body) ∷ field name.Groups 4 (stands_between 1 65535 2 4 body)
    ∷ grouped_fields (decoded 2 4 body) body

-- the place behind the last request of this many parallelBatches
abbrev pub batch_end : ℕ → List ℕ → ℕ
batch_end groups body = request_place (6 + 2 * groups) body (size_sum groups body)
