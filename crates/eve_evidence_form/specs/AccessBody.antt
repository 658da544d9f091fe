-- The fields of an Access frame's body. docs/TRACE.md, "Frames" and "Parts".
use Rattle.std.specs.Prelude.{ℕ, ◌+◌, ◌*◌, ◌==◌, Bool, ◌&&◌, ◌||◌, List, [], ◌∷◌}
use Rattle.eve_grammar.specs.declared.limits.TheConstants.{MOST_ENTRIES, MOST_VERSIONS}
use Rattle.eve_evidence.specs.declared.evidence.BodyField.TheVariants as name
use Rattle.eve_evidence_form.specs.Header.{decoded}
use Rattle.eve_evidence_form.specs.Fields.{field, fields_of, stand, stands_between, stands_below, stands_balance}
use Rattle.eve_evidence_form.specs.declared.fields.FieldThere.{FieldThere}

-- the entry at this place left a balance, and what it saw unless it is a write
abbrev pub stands_after : ℕ → List ℕ → Bool
stands_after at body =
    stands_balance (at + 21) body &&
    ((decoded 1 (at + 4) body == 1) || (decoded 8 (at + 21) body == decoded 8 (at + 13) body))

-- an entry: one of this many rows, a kind, and what was seen and left
abbrev pub entry_fields : ℕ → ℕ → List ℕ → List FieldThere
entry_fields rows at body =
    field name.Row at (stands_below rows 4 at body) ∷ field name.Kind (at + 4) (stands_between 0 1 1 (at + 4) body)
    ∷ field name.Version (at + 5) (stands_between 0 MOST_VERSIONS 8 (at + 5) body)
    ∷ field name.Seen (at + 13) (stands_balance (at + 13) body) ∷ field name.After (at + 21) (stands_after at body) ∷ []

-- a worker, a place, an index, how many entries there are, and the entries
abbrev pub access_fields : ℕ → List ℕ → List FieldThere
access_fields rows body =
    field name.Worker 0 (stand 1 0 body) ∷ field name.Place 1 (stand 2 1 body) ∷ field name.Index 3 (stand 2 3 body)
    ∷ field name.Count 5 (stands_between 0 MOST_ENTRIES 1 5 body)
    ∷ fields_of (λ i. entry_fields rows (6 + 29 * i) body) (decoded 1 5 body)
