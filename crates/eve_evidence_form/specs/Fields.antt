-- Fields of a body: what stands there, and the first that is wrong. docs/MODEL.md, "Evidence"; docs/TRACE.md, "Parts".
use Rattle.std.specs.Prelude.{ℕ, zero, suc, ◌+◌, nat_le, nat_lt, ◌==◌, Bool, false, ◌&&◌, ◌||◌, if◌then◌else◌}
use Rattle.std.specs.Prelude.{List, [], ◌∷◌, ◌++◌, length, take, drop, Option, Some, None, unwrap_or}
use Rattle.std.specs.Int.{w64, cast_signed}
use Rattle.eve_accounts.specs.Money.{is_balance, is_saving, is_amount}
use Rattle.eve_accounts.specs.Names.{is_printable}
use Rattle.eve_accounts.specs.declared.limits.TheConstants.{MOST_NAME_BYTES}
use Rattle.eve_grammar.specs.Limits.{is_between}
use Rattle.eve_evidence.specs.declared.evidence.BodyField.{BodyField}
use Rattle.eve_evidence.specs.declared.evidence.BodyField.TheVariants as name
use Rattle.eve_evidence_form.specs.Header.{decoded}
use Rattle.eve_evidence_form.specs.declared.fields.FieldThere.{FieldThere}

-- ---- lists of fields

-- a field of a body: its name, its place there, and whether it is right
abbrev pub field : BodyField → ℕ → Bool → FieldThere
field own at right = record { field = own; at = at; right = right }

-- the fields of the first n parts of a list, one part after the other, where the fields of each follow from its index
abbrev pub fields_of : (ℕ → List FieldThere) → ℕ → List FieldThere
fields_of part zero = []
fields_of part (suc n) = fields_of part n ++ part n

-- the first of these fields that is wrong
abbrev pub first_wrong_there : List FieldThere → Option FieldThere
first_wrong_there [] = None
first_wrong_there (f ∷ fs) = if f.right then first_wrong_there fs else Some f

-- the same, and where all are right, the byte behind them, at this place
abbrev pub first_wrong_field : ℕ → List FieldThere → FieldThere
first_wrong_field end fields = unwrap_or (first_wrong_there fields) (field name.End end false)

-- ---- what stands there

-- n bytes stand from this place on
abbrev pub stand : ℕ → ℕ → List ℕ → Bool
stand n at body = nat_le (at + n) (length body)

-- a number of n bytes stands there, from the one to the other
abbrev pub stands_between : ℕ → ℕ → ℕ → ℕ → List ℕ → Bool
stands_between low high n at body = stand n at body && is_between low high (decoded n at body)

-- a number of n bytes stands there, below this one
abbrev pub stands_below : ℕ → ℕ → ℕ → List ℕ → Bool
stands_below limit n at body = stand n at body && nat_lt (decoded n at body) limit

-- a balance of eight bytes stands there
abbrev pub stands_balance : ℕ → List ℕ → Bool
stands_balance at body = stand 8 at body && is_balance (cast_signed w64 (decoded 8 at body))

-- one that savings may open with
abbrev pub stands_saving : ℕ → List ℕ → Bool
stands_saving at body = stand 8 at body && is_saving (cast_signed w64 (decoded 8 at body))

-- an amount of eight bytes stands there
abbrev pub stands_amount : ℕ → List ℕ → Bool
stands_amount at body = stand 8 at body && is_amount (cast_signed w64 (decoded 8 at body))

-- ---- parts

-- how many bytes come before the first that no name has
abbrev pub printable_len : List ℕ → ℕ
printable_len [] = 0
printable_len (b ∷ bs) = if is_printable b then printable_len bs + 1 else 0

-- a name of n bytes: where they stand there, its place is that of the first byte that no name has
abbrev pub name_field : BodyField → ℕ → ℕ → List ℕ → FieldThere
name_field own n at body =
    if stand n at body then field own (at + printable_len (take n (drop at body)))
    (printable_len (take n (drop at body)) == n) else field own at false

-- a length, and a name of that length
abbrev pub named_fields : BodyField → BodyField → ℕ → List ℕ → List FieldThere
named_fields own_length own at body =
    field own_length at (stands_between 1 MOST_NAME_BYTES 1 at body)
    ∷ name_field own (decoded 1 at body) (at + 1) body ∷ []

-- the code of a reply, and its value, which is 0 but for a total
abbrev pub reply_fields : ℕ → List ℕ → List FieldThere
reply_fields at body =
    field name.ReplyCode at (stands_between 0 5 1 at body)
    ∷ field name.ReplyValue (at + 1)
    (stand 8 (at + 1) body && ((decoded 1 at body == 1) || (decoded 8 (at + 1) body == 0)))
    ∷ []
