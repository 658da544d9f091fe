-- The fields of the bodies of Rollback and Transfer frames. docs/TRACE.md, "Frames" and "Parts".
use Rattle.std.specs.Prelude.{ℕ, ◌+◌, ◌-◌, ◌*◌, ◌%◌, nat_lt, ◌==◌, Bool, ◌&&◌, ◌||◌, if◌then◌else◌, List, [], ◌∷◌}
use Rattle.eve_grammar.specs.declared.limits.TheConstants.{MOST_VERSIONS}
use Rattle.eve_evidence.specs.declared.evidence.BodyField.TheVariants as name
use Rattle.eve_evidence_form.specs.Header.{decoded}
use Rattle.eve_evidence_form.specs.Fields.{field, fields_of, stand, stands_between, stands_below, stands_balance}
use Rattle.eve_evidence_form.specs.Fields.{stands_saving}
use Rattle.eve_evidence_form.specs.declared.fields.FieldThere.{FieldThere}

-- ---- Rollback

-- the row of the restore with this index, at this place, is above that of the one before it, where there is one
abbrev pub rises : ℕ → ℕ → List ℕ → Bool
rises i at body = (i == 0) || nat_lt (decoded 4 (at - 20) body) (decoded 4 at body)

-- a restore: one of this many rows, a version, a value
abbrev pub restore_fields : ℕ → ℕ → ℕ → List ℕ → List FieldThere
restore_fields rows i at body =
    field name.Row at (stands_below rows 4 at body && rises i at body)
    ∷ field name.Version (at + 4) (stands_between 0 MOST_VERSIONS 8 (at + 4) body)
    ∷ field name.Value (at + 12) (stands_balance (at + 12) body) ∷ []

-- a number, a view, how many restores there are, and the restores
abbrev pub rollback_fields : ℕ → List ℕ → List FieldThere
rollback_fields rows body =
    field name.To 0 (stand 4 0 body) ∷ field name.View 4 (stand 4 4 body) ∷ field name.Count 8 (stand 4 8 body)
    ∷ fields_of (λ i. restore_fields rows i (12 + 20 * i) body) (decoded 4 8 body)

-- ---- Transfer

-- what the row with this index has: a version, and a value, which is none below 0 where savings stand in the row
abbrev pub state_row_fields : ℕ → ℕ → List ℕ → List FieldThere
state_row_fields i at body =
    field name.Version at (stands_between 0 MOST_VERSIONS 8 at body)
    ∷ field name.Value (at + 8)
    (if i % 2 == 0 then stands_saving (at + 8) body else stands_balance (at + 8) body) ∷ []

-- a number, a view, and what each of this many rows has
abbrev pub transfer_fields : ℕ → List ℕ → List FieldThere
transfer_fields rows body =
    field name.Number 0 (stand 4 0 body) ∷ field name.View 4 (stand 4 4 body)
    ∷ fields_of (λ i. state_row_fields i (8 + 16 * i) body) rows
