-- Replies as they are spelled, nine bytes each.
use Rattle.std.proofs.Common.{◌≡◌, ℕ, zero, suc, ◌+◌, ◌*◌, List, [], ◌∷◌, ◌++◌, length, take, drop, get_or}
use Rattle.std.proofs.Common.{slice_get, Some, refl, sym, ap, ◌∙◌, arith, length-append}
use Rattle.std.proofs.Math.Seq.{drop-append-add}
use Rattle.std.specs.Prelude.{IsTrue}
use Rattle.std.specs.Int.{w64, to_be_bytes}
use Rattle.std.specs.List.{flat_map, list_all}
use Rattle.std.proofs.lemmas.Bool.{and_parts}
use Rattle.std.proofs.lemmas.List.{take_at, drop_at, length-take, length-drop}
use Rattle.std.proofs.lemmas.Nat.{be_bytes_8}
use Rattle.std.proofs.lemmas.Option.{same_Some}
use Rattle.byteorder.specs.Endian.{big_number}
use Rattle.eve_smallbank.specs.declared.request.Reply.{Reply}
use Rattle.eve_smallbank.specs.Spelling.{reply_text}
use Rattle.eve_grammar.specs.Limits.{is_reply}
use Rattle.eve_grammar.proofs.Codec.{IsBytes, IsBytes-drop}
use Rattle.eve_grammar.specs.Readers.{reply_at}
use Rattle.eve_grammar.proofs.PartCodecs.{Codec-reply, reply_length}
use Rattle.eve_chains.proofs.LinkedPaths.{none≢some}

-- ---- one reply

pub reply_same : (r s : Reply) → IsTrue (is_reply r) → IsTrue (is_reply s) → reply_text r ≡ reply_text s → r ≡ s
reply_same r s fits its e =
    let own = Codec-reply.again r [] fits in
    let other = Codec-reply.again s [] its in
    ap (λ (x : Reply × List ℕ). x.0)
    (same_Some (r, []) (s, []) (sym own ∙ ap (λ (text : List ℕ). reply_at (text ++ [])) e ∙ other))

first_text : (r : Reply) (more : List ℕ) → take 9 (reply_text r ++ more) ≡ reply_text r
first_text r more = take_at (reply_text r) more 9 (reply_length r)

one_over : (r : Reply) (rs : List Reply) (i : ℕ) → drop (9 * suc i) (reply_text r ++ flat_map reply_text rs)
    ≡ drop (9 * i) (flat_map reply_text rs)
one_over r rs i =
    let e : 9 * suc i ≡ length (reply_text r) + 9 * i = omega (arith, reply_length r) in
    ap (λ (m : ℕ). drop m (reply_text r ++ flat_map reply_text rs)) e
    ∙ drop-append-add (reply_text r) (flat_map reply_text rs) (9 * i)

-- ---- of several, that of an index

pub spelled_at : (rs : List Reply) (i : ℕ) (r : Reply) → slice_get rs i ≡ Some r
    → take 9 (drop (9 * i) (flat_map reply_text rs)) ≡ reply_text r
spelled_at [] i r at = none≢some r at
spelled_at (x ∷ rs) zero r at = first_text x (flat_map reply_text rs) ∙ ap reply_text (same_Some x r at)
spelled_at (x ∷ rs) (suc i) r at = ap (λ (text : List ℕ). take 9 text) (one_over x rs i) ∙ spelled_at rs i r at

pub read_spelled : (rs : List Reply) (i : ℕ) (s : Reply) → IsTrue (list_all is_reply rs) → IsTrue (is_reply s)
    → take 9 (drop (9 * i) (flat_map reply_text rs)) ≡ reply_text s → slice_get rs i ≡ Some s
read_spelled [] i s fit its e =
    let none = length-drop {A = ℕ} (9 * i) [] in
    let few = length-take 9 (drop {A = ℕ} (9 * i) []) in
    let same = ap (λ (text : List ℕ). length text) e in
    let nine = reply_length s in
    absurd (omega arith)
read_spelled (x ∷ rs) zero s fit its e =
    ap Some (reply_same x s (and_parts (is_reply x) (list_all is_reply rs) fit).0 its
    (sym (first_text x (flat_map reply_text rs)) ∙ e))
read_spelled (x ∷ rs) (suc i) s fit its e =
    read_spelled rs i s (and_parts (is_reply x) (list_all is_reply rs) fit).1 its
    (ap (λ (text : List ℕ). take 9 text) (sym (one_over x rs i)) ∙ e)

-- ---- all of them

longer : (r : Reply) (rs : List Reply) → [] ≡ flat_map reply_text (r ∷ rs) → ⊥
longer r rs e =
    let one = reply_length r in
    let both = length-append (reply_text r) (flat_map reply_text rs) in
    let same = ap (λ (text : List ℕ). length text) e in
    omega arith

pub all_same : (rs ss : List Reply) → IsTrue (list_all is_reply rs) → IsTrue (list_all is_reply ss)
    → flat_map reply_text rs ≡ flat_map reply_text ss → rs ≡ ss
all_same [] [] fit its e = refl
all_same [] (s ∷ ss) fit its e = absurd (longer s ss e)
all_same (r ∷ rs) [] fit its e = absurd (longer r rs (sym e))
all_same (r ∷ rs) (s ∷ ss) fit its e =
    let own = and_parts (is_reply r) (list_all is_reply rs) fit in
    let other = and_parts (is_reply s) (list_all is_reply ss) its in
    let one : reply_text r ≡ reply_text s = sym (first_text r (flat_map reply_text rs))
    ∙ ap (λ (text : List ℕ). take 9 text) e ∙ first_text s (flat_map reply_text ss) in
    let rest : flat_map reply_text rs ≡ flat_map reply_text ss =
    sym (drop_at (reply_text r) (flat_map reply_text rs) 9 (reply_length r))
    ∙ ap (λ (text : List ℕ). drop 9 text) e ∙ drop_at (reply_text s) (flat_map reply_text ss) 9 (reply_length s) in
    (λ k. reply_same r s own.0 other.0 one k ∷ all_same rs ss own.1 other.1 rest k)

-- ---- bytes

-- eight bytes are those of their number
eight_same : (xs ys : List ℕ) → IsBytes xs → IsBytes ys → length xs ≡ 8 → length ys ≡ 8
    → big_number 8 xs ≡ big_number 8 ys → xs ≡ ys
eight_same xs ys own its many others e =
    sym (be_bytes_8 xs (big_number 8 xs) many own (omega arith)) ∙ ap (to_be_bytes w64) e
    ∙ be_bytes_8 ys (big_number 8 ys) others its (omega arith)

-- nine bytes are the first, and those of the number behind it
pub nine_same : (xs ys : List ℕ) → IsBytes xs → IsBytes ys → length xs ≡ 9 → length ys ≡ 9
    → get_or xs 0 0 ≡ get_or ys 0 0 → big_number 8 (drop 1 xs) ≡ big_number 8 (drop 1 ys) → xs ≡ ys
nine_same [] ys own its many others first rest = absurd (omega arith)
nine_same (x ∷ xs) [] own its many others first rest = absurd (omega arith)
nine_same (x ∷ xs) (y ∷ ys) own its many others first rest =
    let behind : xs ≡ ys = eight_same xs ys (IsBytes-drop 1 (x ∷ xs) own) (IsBytes-drop 1 (y ∷ ys) its)
    (omega (arith, many)) (omega (arith, others)) rest in
    (λ k. first k ∷ behind k)
