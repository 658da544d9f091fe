-- Members of objects, as the tokens of which json makes the text, and objects in a line. docs/USING.md, "JSON".
use Rattle.std.specs.Prelude.{ℕ, ℤ, if◌then◌else◌, List, [], ◌∷◌, ◌++◌, decimal}
use Rattle.std.specs.Fmt.{signed_decimal}
use Rattle.std.specs.Str.{is_utf8}
use Rattle.hex.specs.Hex.{encode_lower}
use Rattle.json.specs.Token.{Token, begin_object, end_object, begin_array, end_array, key, string, number}
use Rattle.json.specs.Print.{print}

-- bytes as a text; what is no UTF-8 stands as an empty one
abbrev pub text_of : List ℕ → List ℕ
text_of bytes = if is_utf8 bytes then bytes else []

-- a member whose value is a text
unfoldable pub string_member : List ℕ → List ℕ → List Token
string_member name text = key name ∷ string text ∷ []

-- a member whose value is a number
unfoldable pub number_member : List ℕ → ℕ → List Token
number_member name n = key name ∷ number (decimal n) ∷ []

-- a member whose value is a number that may be negative
unfoldable pub signed_member : List ℕ → ℤ → List Token
signed_member name z = key name ∷ number (signed_decimal z) ∷ []

-- a member whose value is a token of a trace: two hexadecimal digits for each byte
abbrev pub token_member : List ℕ → List ℕ → List Token
token_member name token = string_member name (encode_lower token)

-- an object with these members
unfoldable pub object : List Token → List Token
object members = begin_object ∷ (members ++ end_object ∷ [])

-- a member whose value is an array of these items
unfoldable pub array_member : List ℕ → List Token → List Token
array_member name items = key name ∷ begin_array ∷ (items ++ end_array ∷ [])

-- the line of an object with these members
unfoldable pub object_line : List Token → List ℕ
object_line members = print (object members) ++ 10 ∷ []
