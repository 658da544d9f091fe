-- The fields of an Attempt frame's body. docs/TRACE.md, "Frames" and "Parts".
use Rattle.std.specs.Prelude.{ℕ, ◌+◌, ◌*◌, List, [], ◌∷◌, ◌++◌}
use Rattle.eve_grammar.specs.declared.limits.TheConstants.{MOST_REQUESTS}
use Rattle.eve_evidence.specs.declared.evidence.BodyField.TheVariants as name
use Rattle.eve_evidence_form.specs.Header.{decoded}
use Rattle.eve_evidence_form.specs.Fields.{field, fields_of, stand, stands_between, reply_fields}
use Rattle.eve_evidence_form.specs.declared.fields.FieldThere.{FieldThere}

-- an index of the certificate
abbrev pub index_fields : ℕ → List ℕ → List FieldThere
index_fields at body = field name.Index at (stand 2 at body) ∷ []

-- a certificate of n indexes, as many replies, and a token
abbrev pub certified_fields : ℕ → List ℕ → List FieldThere
certified_fields n body =
    fields_of (λ i. index_fields (11 + 2 * i) body) n
    ++ (fields_of (λ i. reply_fields (11 + 2 * n + 9 * i) body) n
    ++ field name.Token (11 + 11 * n) (stand 32 (11 + 11 * n) body) ∷ [])

-- a number, a view, a mode, how many requests there are, and as many indexes and replies, and a token
abbrev pub attempt_fields : List ℕ → List FieldThere
attempt_fields body =
    field name.Number 0 (stand 4 0 body) ∷ field name.View 4 (stand 4 4 body)
    ∷ field name.Mode 8 (stands_between 0 1 1 8 body) ∷ field name.Requests 9 (stands_between 1 MOST_REQUESTS 2 9 body)
    ∷ certified_fields (decoded 2 9 body) body
