-- Which bytes are texts: names are.
use Rattle.std.proofs.Common.{◌≡◌, ℕ, zero, suc, Bool, true, false, List, [], ◌∷◌, length, cond, ap, arith, leb, refl}
use Rattle.std.specs.Prelude.{IsTrue, IsAscii}
use Rattle.std.specs.Str.{IsUtf8, is_utf8}
use Rattle.std.specs.List.{list_all}
use Rattle.std.proofs.lemmas.Bool.{and_parts, leb-true}
use Rattle.std.proofs.lemmas.Str.{IsUtf8-from_ascii, IsUtf8-from_is_utf8, is_utf8-from_IsUtf8}
use Rattle.eve_accounts.specs.Names.{is_name, is_printable}
use Rattle.eve_accounts.specs.declared.limits.TheConstants.{FIRST_NAME_BYTE, LAST_NAME_BYTE}
use Rattle.eve_objects.specs.Members.{text_of}

pub text_whole : (bytes : List ℕ) → IsUtf8 bytes → text_of bytes ≡ bytes
text_whole bytes is = ap (λ (b : Bool). cond b bytes []) (is_utf8-from_IsUtf8 bytes is)

pub no_text : (bytes : List ℕ) → ¬ IsUtf8 bytes → text_of bytes ≡ []
no_text bytes broken =
    elim (is_utf8 bytes) as (λ (b : Bool). is_utf8 bytes ≡ b → cond b bytes [] ≡ []) [
      | true ↦ λ e. absurd (broken (IsUtf8-from_is_utf8 bytes e))
      | false ↦ λ e. refl
    ]
    refl

printable_ascii : (bytes : List ℕ) → IsTrue (list_all is_printable bytes) → IsAscii bytes
printable_ascii [] all i = omega arith
printable_ascii (b ∷ rest) all zero =
    let parts = and_parts (is_printable b) _ all in
    let range = and_parts (leb FIRST_NAME_BYTE b) (leb b LAST_NAME_BYTE) parts.0 in
    let below = leb-true b LAST_NAME_BYTE range.1 in
    omega arith
printable_ascii (b ∷ rest) all (suc i) = printable_ascii rest (and_parts (is_printable b) _ all).1 i

pub name_whole : (name : List ℕ) → IsTrue (is_name name) → text_of name ≡ name
name_whole name fits =
    let some = and_parts (leb 1 (length name)) _ fits in
    let few = and_parts (leb (length name) 24) _ some.1 in
    text_whole name (IsUtf8-from_ascii name (printable_ascii name few.1))
