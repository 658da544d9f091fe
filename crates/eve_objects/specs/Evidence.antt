-- The lines that `explain` prints behind the verdict's, as objects of one member. docs/USING.md, "JSON".
use Rattle.std.specs.Prelude.{ℕ, suc, ◌+◌, ◌==◌, nat_le, if◌then◌else◌, Bool, true, false, ◌&&◌, List, [], ◌∷◌}
use Rattle.std.specs.Prelude.{length, take, drop, Option, Some, None}
use Rattle.json.specs.Token.{Token, key, string, number}
use Rattle.json.specs.Word.{after_number}
use Rattle.eve_objects.specs.Members.{object, text_of}
use Rattle.eve_objects.specs.declared.evidence.TheConstants.{LONGEST_NUMBER}

-- how many bytes stand before the first colon
abbrev pub colon : List ℕ → ℕ
colon [] = 0
colon (byte ∷ rest) = if byte == 58 then 0 else suc (colon rest)

-- nothing is left
abbrev pub is_end : Option (List ℕ) → Bool
is_end None = false
is_end (Some []) = true
is_end (Some (byte ∷ rest)) = false

-- it is a number, and not longer than those that eve prints
abbrev pub is_short_number : List ℕ → Bool
is_short_number text = nat_le (length text) LONGEST_NUMBER && is_end (after_number text)

-- the value of a member: a number, where numbers may stand and the text is one, else the text
abbrev pub value_token : Bool → List ℕ → Token
value_token has_numbers text = if has_numbers && is_short_number text then number text else string text

-- what stands before the first colon of a line, and what stands behind it and a space
abbrev pub line_member : Bool → List ℕ → List Token
line_member has_numbers line =
    key (text_of (take (colon line) line)) ∷ value_token has_numbers (text_of (drop (colon line + 2) line)) ∷ []

-- the object of a line: what stands before its first `: `, with what stands behind it
unfoldable pub line_object : Bool → List ℕ → List Token
line_object has_numbers line = object (line_member has_numbers line)
