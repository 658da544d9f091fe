-- The header, byte by byte.
use Rattle.std.proofs.Common.{◌≡◌, ℕ, ◌^◌, ◌≤◌, true, leb, eqb, List, [], ◌∷◌, ◌++◌, length, take, drop, Some, refl}
use Rattle.std.proofs.Common.{sym, ap, ◌∙◌, arith}
use Rattle.std.specs.Prelude.{codes, nat_eq}
use Rattle.std.specs.Cmp.Lexicographic.{pointwise}
use Rattle.std.proofs.lemmas.Bool.{le-leb, leb-true, eq-eqb, eqb-true, and_parts, and_from}
use Rattle.std.proofs.lemmas.Nat.{be_bytes_8}
use Rattle.std.proofs.lemmas.List.{take_at, take-append-drop, append-nil, length-append, length-take, length-drop}
use Rattle.std.proofs.lemmas.List.{drop-drop}
use Rattle.byteorder.specs.Endian.{big_bytes, big_number}
use Rattle.byteorder.specs.Numbers.{big_number-reads_back, big_from-take}
use Rattle.eve_grammar.specs.Trace.{Trace}
use Rattle.eve_grammar.specs.Frames.{frames_of}
use Rattle.eve_grammar.specs.Spelling.{frames_text, head_text}
use Rattle.eve_grammar.specs.Readers.{header_of}
use Rattle.eve_views.specs.Form.{is_sized, has_magic, head_bytes, SaysHead}
use Rattle.eve_views.specs.inner.Header.{IsHeader}
use Rattle.eve_grammar.proofs.Codec.{IsBytes, IsBytes-drop, IsBytes-take}
use Rattle.eve_grammar.proofs.FrameLaws.{limits_text, Exact-header}
use Rattle.eve_grammar.proofs.HeaderParts.{in_parts, header_parts, length-limits_text, length-head_text, behind_magic}
use Rattle.eve_grammar.proofs.HeaderParts.{behind_limits, behind_total}
use Rattle.eve_grammar.specs.declared.head.Head.{Head}
use Rattle.eve_grammar.specs.FrameOrder.{Spells}
use Rattle.eve_views.proofs.WholeTraces.{spells_frames}

-- ---- its parts

decoded_in_parts : (h : Head) (total : ℕ) (rest : List ℕ) → head_bytes (in_parts h total rest) ≡ limits_text h
decoded_in_parts h total rest = ap (take 18) (behind_magic h total rest)
    ∙ take_at (limits_text h) (big_bytes 8 total ++ rest) 18 (length-limits_text h)

head_bytes_text : (h : Head) → head_bytes (head_text h 0) ≡ limits_text h
head_bytes_text h =
    ap head_bytes (sym (append-nil (head_text h 0)) ∙ header_parts h 0 []) ∙ decoded_in_parts h 0 []

-- ---- what it says

pub says_head : (bytes : List ℕ) (h : Head) → IsBytes bytes → header_of (head_bytes bytes) ≡ Some h → SaysHead bytes h
says_head bytes h fits e =
    let t = Exact-header.takes (head_bytes bytes) h (IsBytes-take 18 (drop 6 bytes) (IsBytes-drop 6 bytes fits)) e in
    record { limits = t.1; decoded = t.0 ∙ sym (head_bytes_text h) }

pub head_decoded : (bytes : List ℕ) (h : Head) → SaysHead bytes h → header_of (head_bytes bytes) ≡ Some h
head_decoded bytes h s = ap header_of (s.decoded ∙ head_bytes_text h) ∙ Exact-header.again h s.limits

same_bytes : (xs ys : List ℕ) → pointwise nat_eq xs ys ≡ true → xs ≡ ys
same_bytes [] [] e = refl
same_bytes [] (y ∷ ys) e = absurd cc
same_bytes (x ∷ xs) [] e = absurd cc
same_bytes (x ∷ xs) (y ∷ ys) e =
    let a = and_parts (eqb x y) (pointwise nat_eq xs ys) e in
    ap (λ (n : ℕ). n ∷ xs) (eqb-true x y a.0) ∙ ap (λ (zs : List ℕ). y ∷ zs) (same_bytes xs ys a.1)

magic_of : (bytes : List ℕ) → has_magic bytes ≡ true → take 6 bytes ≡ codes "EVESBK"
magic_of bytes e = sym (same_bytes (codes "EVESBK") (take 6 bytes) e)

total_back : (bytes : List ℕ) → IsBytes bytes → 8 ≤ length bytes → big_bytes 8 (big_number 8 bytes) ≡ take 8 bytes
total_back bytes fits long =
    let same : big_number 8 (take 8 bytes) ≡ big_number 8 bytes = big_from-take 0 8 8 bytes (omega arith) in
    ap (big_bytes 8) (sym same) ∙ be_bytes_8 (take 8 bytes) _ (omega (arith, length-take 8 bytes))
    (IsBytes-take 8 bytes fits) (omega arith)

pub record Sized (bytes : List ℕ) : Type 0 where
  pub long : 32 ≤ length bytes
  pub short : length bytes ≤ 2 ^ 30
  pub total : big_number 8 (drop 24 bytes) ≡ length bytes

pub Sized-from : (bytes : List ℕ) → is_sized bytes ≡ true → Sized bytes
Sized-from bytes e =
    let a = and_parts (leb 32 (length bytes)) _ e in
    let b = and_parts (leb (length bytes) (2 ^ 30)) (eqb (big_number 8 (drop 24 bytes)) (length bytes)) a.1 in
    record {
      long = leb-true 32 (length bytes) a.0;
      short = leb-true (length bytes) (2 ^ 30) b.0;
      total = eqb-true _ _ b.1;
    }

-- the header is spelled so
pub header_spelled : (bytes : List ℕ) (h : Head) (rest : List ℕ) → IsBytes bytes → IsHeader bytes h → drop 32 bytes
    ≡ rest → bytes ≡ head_text h (length bytes) ++ rest
header_spelled bytes h rest fits is e =
    let sized = Sized-from bytes is.sized in
    let decoded = (Exact-header.takes (head_bytes bytes) h (IsBytes-take 18 (drop 6 bytes) (IsBytes-drop 6 bytes fits))
    is.decoded).0 in
    let eight : take 8 (drop 24 bytes) ≡ big_bytes 8 (length bytes) =
    sym (total_back (drop 24 bytes) (IsBytes-drop 24 bytes fits)
    (let l = sized.long in omega (arith, length-drop 24 bytes))) ∙ ap (big_bytes 8) sized.total in
    let last : drop 24 bytes ≡ big_bytes 8 (length bytes) ++ rest =
    sym (take-append-drop 8 (drop 24 bytes)) ∙ ap (λ (b : List ℕ). b ++ drop 8 (drop 24 bytes)) eight
    ∙ ap (λ (b : List ℕ). big_bytes 8 (length bytes) ++ b) (drop-drop 8 24 bytes ∙ e) in
    let middle : drop 6 bytes ≡ limits_text h ++ (big_bytes 8 (length bytes) ++ rest) =
    sym (take-append-drop 18 (drop 6 bytes)) ∙ ap (λ (b : List ℕ). b ++ drop 18 (drop 6 bytes)) decoded
    ∙ ap (λ (b : List ℕ). limits_text h ++ b) (drop-drop 18 6 bytes ∙ last) in
    sym (take-append-drop 6 bytes) ∙ ap (λ (b : List ℕ). b ++ drop 6 bytes) (magic_of bytes is.magic)
    ∙ ap (λ (b : List ℕ). codes "EVESBK" ++ b) middle ∙ sym (header_parts h (length bytes) rest)

-- what is spelled has that header
pub header_again_of : (bytes : List ℕ) (t : Trace) → Spells bytes t → IsHeader bytes t.head
    × (drop 32 bytes ≡ frames_text (frames_of t))
header_again_of bytes t spells =
    let s = spells_frames bytes t spells in
    let h = t.head in
    let n = length bytes in
    let fs = frames_text (frames_of t) in
    let is : bytes ≡ in_parts h n fs = s.spelled ∙ header_parts h n fs in
    let short : n ≤ 2 ^ 30 = s.short in
    let long : 32 ≤ n = omega (arith, ap length s.spelled, length-append (head_text h n) fs, length-head_text h n) in
    let total : big_number 8 (drop 24 bytes) ≡ n = ap (λ (b : List ℕ). big_number 8 (drop 24 b)) is
    ∙ ap (big_number 8) (behind_limits h n fs) ∙ big_number-reads_back 8 n fs (omega arith) in (
      record {
        sized = and_from _ _ (le-leb 32 n long) (and_from _ _ (le-leb n (2 ^ 30) short) (eq-eqb _ _ total));
        magic = ap has_magic is;
        decoded = ap (λ (b : List ℕ). header_of (head_bytes b)) is ∙ ap header_of (decoded_in_parts h n fs)
            ∙ Exact-header.again h s.limits;
      },
      ap (drop 32) is ∙ behind_total h n fs,
    )
