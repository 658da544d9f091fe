-- Public: other crates cite these lemmas. A header in three parts: the first six bytes, the limits, the length of the
-- whole.
use Rattle.std.proofs.Common.{◌≡◌, ℕ, List, ◌++◌, length, drop, refl, sym, ap, ◌∙◌, append_assoc, arith}
use Rattle.std.specs.Prelude.{codes}
use Rattle.std.proofs.lemmas.List.{drop_at, drop-drop, length-append}
use Rattle.byteorder.specs.Endian.{big_bytes}
use Rattle.byteorder.specs.Numbers.{length-bytes_high_first}
use Rattle.eve_grammar.specs.Spelling.{head_text}
use Rattle.eve_grammar.proofs.FrameLaws.{limits_text, head_text_parts}
use Rattle.eve_grammar.specs.declared.head.Head.{Head}

-- a header, and the bytes after it
abbrev pub in_parts : Head → ℕ → List ℕ → List ℕ
in_parts h total rest = codes "EVESBK" ++ (limits_text h ++ (big_bytes 8 total ++ rest))

pub header_parts : (h : Head) (total : ℕ) (rest : List ℕ) → head_text h total ++ rest ≡ in_parts h total rest
header_parts h total rest =
    ap (λ (b : List ℕ). b ++ rest) (head_text_parts h total)
    ∙ append_assoc (codes "EVESBK") (limits_text h ++ big_bytes 8 total) rest
    ∙ ap (λ (b : List ℕ). codes "EVESBK" ++ b) (append_assoc (limits_text h) (big_bytes 8 total) rest)

pub length-limits_text : (h : Head) → length (limits_text h) ≡ 18
length-limits_text h = refl

pub length-head_text : (h : Head) (total : ℕ) → length (head_text h total) ≡ 32
length-head_text h total =
    ap length (head_text_parts h total)
    ∙ omega (
      arith,
      length-append (codes "EVESBK") (limits_text h ++ big_bytes 8 total),
      length-append (limits_text h) (big_bytes 8 total),
      length-limits_text h,
      length-bytes_high_first 8 total,
    )

pub behind_magic : (h : Head) (total : ℕ) (rest : List ℕ) → drop 6 (in_parts h total rest)
    ≡ limits_text h ++ (big_bytes 8 total ++ rest)
behind_magic h total rest = drop_at (codes "EVESBK") (limits_text h ++ (big_bytes 8 total ++ rest)) 6 refl

pub behind_limits : (h : Head) (total : ℕ) (rest : List ℕ) → drop 24 (in_parts h total rest) ≡ big_bytes 8 total ++ rest
behind_limits h total rest =
    sym (drop-drop 18 6 (in_parts h total rest)) ∙ ap (drop 18) (behind_magic h total rest)
    ∙ drop_at (limits_text h) (big_bytes 8 total ++ rest) 18 (length-limits_text h)

pub behind_total : (h : Head) (total : ℕ) (rest : List ℕ) → drop 32 (in_parts h total rest) ≡ rest
behind_total h total rest =
    sym (drop-drop 8 24 (in_parts h total rest)) ∙ ap (drop 8) (behind_limits h total rest)
    ∙ drop_at (big_bytes 8 total) rest 8 (length-bytes_high_first 8 total)
