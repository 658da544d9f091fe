-- A verdict's line, and the lines behind it, sent one after another.
use Rattle.std.proofs.Common.{◌≡◌, ◌≤◌, ◌+◌, ◌^◌, ℕ, zero, suc, List, [], ◌∷◌, ◌++◌, map, length, take, drop}
use Rattle.std.proofs.Common.{Option, None, Some, refl, ap, sym, subst, ◌∙◌, ◌-◌, arith}
use Rattle.std.proofs.Common.{append-nil, append_assoc, add-one, length-append, lit≤}
use Rattle.std.specs.Prelude.{slice_get}
use Rattle.std.specs.List.{flat_map}
use Rattle.std.proofs.lemmas.List.{drop_all, take-take, take_all, take_at}
use Rattle.json.specs.Token.{Token}
use Rattle.std.proofs.KnownBytes.{Appends-trans}
use Rattle.std.specs.Io.KnownBytes.{Appends}
use Rattle.eve_grammar.specs.declared.limits.TheConstants.{MOST_BYTES}
use Rattle.eve_reasons.specs.Lines.{ended}
use Rattle.eve_reasons.proofs.Few.{few_counts, few_reasons}
use Rattle.eve_reasons.specs.declared.lines.TheConstants.{MOST_LINES}
use Rattle.eve_streams.specs.Prefix.{AppendsPrefix}
use Rattle.eve_streams.proofs.JoinedSends.{AppendsPrefix-after, AppendsPrefix-more}
use Rattle.eve_tool.specs.Explain.{Explains, explained_text, lines_behind}
use Rattle.eve_streams.specs.Failures.{after_failure}
use Rattle.eve_write.specs.Writes.{Stopped}
use Rattle.eve_tool_arguments.specs.declared.style.Style.{Style}
use Rattle.eve_audit.specs.Verdict.{IsVerdict, SpellsAudited}
use Rattle.eve_audit.specs.declared.verdict.Summary.{Summary}
use Rattle.eve_audit.specs.declared.verdict.Verdict.TheVariants.{Yes}
use Rattle.eve_explain.specs.Explained.{IsExplained, verdict_in}
use Rattle.eve_explain.specs.declared.explained.Explained.{Explained}
use Rattle.eve_explain.specs.declared.explained.Explained.TheVariants as explained
use Rattle.eve_tool.specs.Lines.{status_of_verdict}
use Rattle.eve_tool.proofs.CutInput.{Judges-cut}

-- ---- lines

-- the text of the lines before number i
abbrev pub text_before : ℕ → List (List ℕ) → List ℕ
text_before i lines = flat_map ended (take i lines)

-- where there is a line of that number, it comes behind them, and something behind it
pub next_line : (lines : List (List ℕ)) (i : ℕ) (line : List ℕ) → Some line ≡ slice_get (map ended lines) i
    → (text_before (i + 1) lines ≡ text_before i lines ++ line)
    × (flat_map ended lines ≡ (text_before i lines ++ line) ++ flat_map ended (drop (i + 1) lines))
next_line lines i line is = rw (add-one i) (by lines i is)
  where
    by : (lines : List (List ℕ)) (i : ℕ) → Some line ≡ slice_get (map ended lines) i
        → (text_before (suc i) lines ≡ text_before i lines ++ line)
        × (flat_map ended lines ≡ (text_before i lines ++ line) ++ flat_map ended (drop (suc i) lines))
    by [] i is = absurd cc
    by (l ∷ rest) zero is =
        let same : line ≡ ended l = cc in
        rw same (append-nil (ended l), refl)
    by (l ∷ rest) (suc i) is =
        let more = by rest i is in (
          ap (λ t. ended l ++ t) more.0 ∙ sym (append_assoc (ended l) _ _),
          ap (λ t. ended l ++ t) more.1 ∙ sym (append_assoc (ended l) _ _)
              ∙ ap (λ t. t ++ flat_map ended (drop (suc i) rest)) (sym (append_assoc (ended l) _ _)),
        )

-- it was sent
pub sends_line : (a b c : Option (List ℕ)) (lines : List (List ℕ)) (i : ℕ) (line sent : List ℕ) → sent ≡ line
    → Some line ≡ slice_get (map ended lines) i → Appends a b (text_before i lines) → Appends b c sent
    → Appends a c (text_before (i + 1) lines)
sends_line a b c lines i line sent same is before now =
    subst (Appends a c) (sym (next_line lines i line is).0)
    (Appends-trans a b c _ line before (subst (Appends b c) same now))

-- it was stopped
pub stops_at : (a b c : Option (List ℕ)) (lines : List (List ℕ)) (i : ℕ) (line sent : List ℕ) → sent ≡ line
    → Some line ≡ slice_get (map ended lines) i → Appends a b (text_before i lines) → AppendsPrefix b c sent
    → AppendsPrefix a c (flat_map ended lines)
stops_at a b c lines i line sent same is before now =
    subst (AppendsPrefix a c) (sym (next_line lines i line is).1)
    (AppendsPrefix-more a c _ _ (AppendsPrefix-after a b c _ line before (subst (AppendsPrefix b c) same now)))

-- where there are no more, they are all
pub sends_all : (a b : Option (List ℕ)) (lines : List (List ℕ)) (i : ℕ) → length lines ≤ i
    → Appends a b (text_before i lines) → Appends a b (flat_map ended lines)
sends_all a b lines i few sent =
    subst (λ (l : List (List ℕ)). Appends a b (flat_map ended l)) (take_all i lines few) sent

-- there are few
pub few_behind : (x : Explained) → length (lines_behind x) ≤ MOST_LINES
few_behind (explained.Yes s counts) = few_counts counts
few_behind (explained.No f evidence) = few_reasons evidence

-- ---- objects of lines

-- the words of a line are what stands before its line feed
words_are : (words line : List ℕ) → line ≡ ended words → take (length line - 1) line ≡ words
words_are words line is =
    let len : length words ≡ length line - 1 = omega (arith, ap length is, length-append words (10 ∷ [])) in
    ap (take (length line - 1)) is ∙ take_at words (10 ∷ []) (length line - 1) len

-- the object of the line of a number was appended
pub object_more : (item : List ℕ → List Token) (old new before all : List Token) (lines : List (List ℕ)) (i : ℕ)
    (line : List ℕ) → Some line ≡ slice_get (map ended lines) i → new ≡ old ++ item (take (length line - 1) line)
    → old ++ flat_map item (drop i lines) ≡ before ++ all → new ++ flat_map item (drop (i + 1) lines) ≡ before ++ all
object_more item old new before all lines i line is came far =
    ap (λ t. t ++ flat_map item (drop (i + 1) lines)) came ∙ append_assoc old _ _
    ∙ ap (λ t. old ++ t) (rw (add-one i) (by lines i is)) ∙ far
  where
    by : (lines : List (List ℕ)) (i : ℕ) → Some line ≡ slice_get (map ended lines) i
        → item (take (length line - 1) line) ++ flat_map item (drop (suc i) lines) ≡ flat_map item (drop i lines)
    by [] i is = absurd cc
    by (l ∷ rest) zero is =
        let same : line ≡ ended l = cc in
        ap (λ (w : List ℕ). item w ++ flat_map item rest) (words_are l line same)
    by (l ∷ rest) (suc i) is = by rest i is

-- all were
pub objects_all : (item : List ℕ → List Token) (now before all : List Token) (lines : List (List ℕ)) (i : ℕ)
    → length lines ≤ i → now ++ flat_map item (drop i lines) ≡ before ++ all → now ≡ before ++ all
objects_all item now before all lines i few far =
    sym (append-nil now) ∙ ap (λ (ls : List (List ℕ)). now ++ flat_map item ls) (sym (drop_all i lines few)) ∙ far

-- where there is no line of a number, there are no more
pub no_more : (lines : List (List ℕ)) (i : ℕ) → None ≡ slice_get (map ended lines) i → length lines ≤ i
no_more [] i none = omega arith
no_more (l ∷ rest) zero none = absurd cc
no_more (l ∷ rest) (suc i) none = let more = no_more rest i none in omega arith

-- an array behind other tokens
pub array_behind : (first items : List Token) (named opens closes : Token)
    → (((first ++ named ∷ []) ++ opens ∷ []) ++ items) ++ closes ∷ []
    ≡ first ++ (named ∷ opens ∷ (items ++ closes ∷ []))
array_behind first items named opens closes =
    append_assoc ((first ++ named ∷ []) ++ opens ∷ []) items (closes ∷ [])
    ∙ append_assoc (first ++ named ∷ []) (opens ∷ []) (items ++ closes ∷ [])
    ∙ append_assoc first (named ∷ []) (opens ∷ (items ++ closes ∷ []))

-- ---- what is printed of an explanation

-- it is said of bytes that are read whole
pub explains-of : (style : Style) (bytes : List ℕ) (x : Explained) (status : ℕ)
    → status ≡ status_of_verdict (verdict_in x) → IsVerdict bytes (verdict_in x)
    → ((s : Summary) → verdict_in x ≡ Yes s → SpellsAudited bytes) → IsExplained bytes x
    → length bytes ≤ MOST_BYTES + 1 → Explains (explained_text style) bytes (explained_text style x) status
explains-of style bytes x status ends verdict spells shown fits = record {
  explained = x;
  judges = record { is = verdict; yes = spells };
  shown = subst (λ (b : List ℕ). IsExplained b x) (sym (take_all (MOST_BYTES + 1) bytes fits)) shown;
  whole = refl;
  ends = ends;
}

-- a verdict's line, and then what stands behind it, was stopped there
pub stops_behind : {O : Type 0} (written : O → Option (List ℕ)) (failures : O → ℕ) (start mid new : O)
    (first more : List ℕ) → Appends (written start) (written mid) first → failures mid ≡ failures start
    → AppendsPrefix (written mid) (written new) more → failures new ≡ after_failure (failures mid)
    → Stopped written failures start new (first ++ more)
stops_behind written failures start mid new first more sent fine prefix counted = record {
  prefix = AppendsPrefix-after (written start) (written mid) (written new) first more sent prefix;
  counted = counted ∙ ap after_failure fine;
}

-- ---- bytes of which only a prefix was read

-- a number of bytes that no trace has is enough to say what is to be said of all of them
pub Explains-cut : (printed : Explained → List ℕ) (bytes text : List ℕ) (status : ℕ)
    → Explains printed (take (2 ^ 30 + 1) bytes) text status → Explains printed bytes text status
Explains-cut printed bytes text status said = record {
  explained = said.explained;
  judges = Judges-cut (2 ^ 30) bytes (verdict_in said.explained) (lit≤ tt) said.judges;
  shown = subst (λ (b : List ℕ). IsExplained b said.explained)
      (take-take (2 ^ 30 + 1) (2 ^ 30 + 1) bytes (lit≤ tt)) said.shown;
  whole = said.whole;
  ends = said.ends;
}
