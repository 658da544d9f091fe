-- A line that is split into words.
use Rattle.std.proofs.Common.{◌≡◌, ◌≢◌, ℕ, ◌+◌, ◌-◌, ◌<◌, ◌≤◌, nat_le, true, false, inl, inr, ◌&&◌}
use Rattle.std.proofs.Common.{◌∷◌, ◌++◌, length, take, drop, get_or, sym, ap, subst, ◌∙◌, refl, arith, append_assoc}
use Rattle.std.proofs.Common.{length-append, below_more, List, [], IsTrue}
use Rattle.std.specs.List.{list_all, flat_map, join_with_byte}
use Rattle.std.proofs.lemmas.Bool.{cases_lt, and_from, and_parts, le-leb, lt-leb, ltb-true, ltb-false, false≢true}
use Rattle.std.proofs.lemmas.List.{take_more, take-append-drop, take-take, drop-take, get_or_at, append-nil}
use Rattle.std.proofs.lemmas.List.{length-drop, get_or-drop}
use Rattle.std.proofs.lemmas.List.Folds.{list_all-append, list_all_at}
use Rattle.std.proofs.Math.ListN.{get_or-append}
use Rattle.std.proofs.lemmas.List.Concat.{flat_map-append}
use Rattle.eve_workload.specs.Lines.{text_of_words}
use Rattle.eve_workload.specs.inner.Words.{is_inside, IsFirstLine}

-- each word with a space after it
abbrev pub spaced : List (List ℕ) → List ℕ
spaced words = flat_map (λ word. word ++ 32 ∷ []) words

-- a text split into words up to here
pub record IsSplit (text : List ℕ) (words : List (List ℕ)) (from at : ℕ) : Type 0 where
  pub order : from ≤ at
  pub text_is : take from text ≡ spaced words
  pub inside : IsTrue (list_all (list_all is_inside) words)
  pub here : IsTrue (list_all is_inside (take (at - from) (drop from text)))
  pub none : (k : ℕ) → k < at → get_or text k 0 ≢ 10

-- the text up to here, and one more byte
up_to : (text : List ℕ) (from at : ℕ) → from ≤ at → take at text ≡ take from text ++ take (at - from)
    (drop from text)
up_to text from at order =
    let sum : from + (at - from) ≡ at = omega arith in
    let behind : drop from (take at text) ≡ take (at - from) (drop from text) =
    ap (λ n. drop from (take n text)) (sym sum) ∙ drop-take from (at - from) text in
    sym (take-append-drop from (take at text)) ∙ (λ k. take-take from at text order k ++ behind k)

spaced-push : (words : List (List ℕ)) (word : List ℕ) → spaced (words ++ word ∷ []) ≡ spaced words ++ (word ++ 32 ∷ [])
spaced-push words word =
    flat_map-append (λ (w : List ℕ). w ++ 32 ∷ []) words (word ∷ [])
    ∙ ap (λ w. spaced words ++ w) (append-nil (word ++ 32 ∷ []))

text-push : (words : List (List ℕ)) (word : List ℕ) → text_of_words (words ++ word ∷ [])
    ≡ spaced words ++ (word ++ 10 ∷ [])
text-push [] word = refl
text-push (w ∷ []) word =
    append_assoc w (32 ∷ word) (10 ∷ [])
    ∙ sym (ap (λ t. t ++ (word ++ 10 ∷ [])) (append-nil (w ++ 32 ∷ []))
    ∙ append_assoc w (32 ∷ []) (word ++ 10 ∷ []))
text-push (w ∷ v ∷ words) word =
    append_assoc w (32 ∷ join_with_byte 32 (v ∷ (words ++ word ∷ []))) (10 ∷ [])
    ∙ ap (λ t. w ++ (32 ∷ t)) (text-push (v ∷ words) word)
    ∙ sym (append_assoc (w ++ 32 ∷ []) (spaced (v ∷ words)) (word ++ 10 ∷ [])
    ∙ append_assoc w (32 ∷ []) (spaced (v ∷ words) ++ (word ++ 10 ∷ [])))

-- a byte after the last word
with_byte : (text : List ℕ) (words : List (List ℕ)) (from at byte : ℕ) → IsSplit text words from at → at < length text
    → get_or text at 0 ≡ byte → take (at + 1) text ≡ spaced words ++ (take (at - from) (drop from text) ++ byte ∷ [])
with_byte text words from at byte split there is =
    take_more text at 0 there
    ∙ (λ k. (up_to text from at split.order ∙ ap (λ t. t ++ take (at - from) (drop from text)) split.text_is) k
    ++ is k ∷ [])
    ∙ append_assoc (spaced words) (take (at - from) (drop from text)) (byte ∷ [])

all_inside : (words : List (List ℕ)) (word : List ℕ) → IsTrue (list_all (list_all is_inside) words)
    → IsTrue (list_all is_inside word) → IsTrue (list_all (list_all is_inside) (words ++ word ∷ []))
all_inside words word all inside =
    list_all-append (list_all is_inside) words (word ∷ []) ∙ and_from (list_all (list_all is_inside) words)
    (list_all is_inside word && true) all (and_from (list_all is_inside word) true inside refl)

pub split_end : (text : List ℕ) (words : List (List ℕ)) (word : List ℕ) (from at : ℕ) → IsSplit text words from at
    → at < length text → get_or text at 0 ≡ 10 → word ≡ take (at - from) (drop from text)
    → IsFirstLine text (words ++ word ∷ []) (at + 1)
split_end text words word from at split there is word_is =
    record {
      line = with_byte text words from at 10 split there is ∙ ap (λ w. spaced words ++ (w ++ 10 ∷ [])) (sym word_is)
          ∙ sym (text-push words word);
      within = omega arith;
      some = omega (arith, length-append words (word ∷ []));
      inside = all_inside words word split.inside (subst (λ w. IsTrue (list_all is_inside w)) (sym word_is) split.here);
    }

none_more : (text : List ℕ) (at : ℕ) → ((k : ℕ) → k < at → get_or text k 0 ≢ 10) → get_or text at 0 ≢ 10 → (k : ℕ)
    → k < at + 1 → get_or text k 0 ≢ 10
none_more text at none here = below_more (λ k. get_or text k 0 ≢ 10) at none here

pub split_space : (text : List ℕ) (words : List (List ℕ)) (word : List ℕ) (from at : ℕ) → IsSplit text words from at
    → at < length text → get_or text at 0 ≡ 32 → word ≡ take (at - from) (drop from text)
    → IsSplit text (words ++ word ∷ []) (at + 1) (at + 1)
split_space text words word from at split there is word_is =
    let zero_more : (at + 1) - (at + 1) ≡ 0 = omega arith in
    record {
      order = omega arith;
      text_is = with_byte text words from at 32 split there is ∙ ap (λ w. spaced words ++ (w ++ 32 ∷ [])) (sym word_is)
          ∙ sym (spaced-push words word);
      inside = all_inside words word split.inside (subst (λ w. IsTrue (list_all is_inside w)) (sym word_is) split.here);
      here = rw zero_more refl;
      none = none_more text at split.none (λ feed. omega (arith, feed, is));
    }

pub split_inside : (text : List ℕ) (words : List (List ℕ)) (from at : ℕ) → IsSplit text words from at → at < length text
    → is_inside (get_or text at 0) ≡ true → IsSplit text words from (at + 1)
split_inside text words from at split there inside =
    let order = split.order in
    let size : (at + 1) - from ≡ (at - from) + 1 = omega arith in
    let within : at - from < length (drop from text) = omega (arith, length-drop from text) in
    let byte = get_or text at 0 in
    let read : get_or (drop from text) (at - from) 0 ≡ byte =
    get_or-drop from text (at - from) 0
    ∙ (let sum : from + (at - from) ≡ at = omega arith in ap (λ n. get_or text n 0) sum) in
    let no_feed : byte ≢ 10 = λ feed. omega (arith, ltb-true 32 byte inside, feed) in
    let more : take ((at + 1) - from) (drop from text) ≡ take (at - from) (drop from text) ++ byte ∷ [] =
    ap (λ n. take n (drop from text)) size ∙ take_more (drop from text) (at - from) 0 within
    ∙ ap (λ b. take (at - from) (drop from text) ++ b ∷ []) read in
    record {
      order = omega arith;
      text_is = split.text_is;
      inside = split.inside;
      here = ap (list_all is_inside) more ∙ list_all-append is_inside (take (at - from) (drop from text)) (byte ∷ [])
          ∙ and_from (list_all is_inside (take (at - from) (drop from text))) (is_inside byte && true) split.here
          (and_from (is_inside byte) true inside refl);
      none = none_more text at split.none no_feed;
    }

-- a text without a line feed begins with no line
pub no_line_unended : (text : List ℕ) → ((k : ℕ) → k < length text → get_or text k 0 ≢ 10) → (ws : List (List ℕ))
    (behind : List ℕ) → text ≢ text_of_words ws ++ behind
no_line_unended text none ws behind is =
    let prefix = join_with_byte 32 ws in
    let same = is ∙ append_assoc prefix (10 ∷ []) behind in
    let long = ap length same ∙ length-append prefix (10 ∷ behind) in
    none (length prefix) (omega arith) (ap (λ t. get_or t (length prefix) 0) same
    ∙ get_or_at prefix 10 behind 0 (length prefix) refl)

word_above : (word : List ℕ) → IsTrue (list_all is_inside word) → IsTrue (list_all (nat_le 32) word)
word_above [] inside = refl
word_above (c ∷ word) inside =
    let parts = and_parts (is_inside c) (list_all is_inside word) inside in
    and_from (nat_le 32 c) (list_all (nat_le 32) word) (le-leb 32 c (omega (arith, ltb-true 32 c parts.0)))
    (word_above word parts.1)

words_above : (words : List (List ℕ)) → IsTrue (list_all (list_all is_inside) words)
    → IsTrue (list_all (nat_le 32) (join_with_byte 32 words))
words_above [] inside = refl
words_above (word ∷ []) inside = word_above word (and_parts (list_all is_inside word) true inside).0
words_above (word ∷ next ∷ words) inside =
    let parts = and_parts (list_all is_inside word) (list_all (list_all is_inside) (next ∷ words)) inside in
    let rest = words_above (next ∷ words) parts.1 in
    list_all-append (nat_le 32) word (32 ∷ join_with_byte 32 (next ∷ words))
    ∙ and_from (list_all (nat_le 32) word) (list_all (nat_le 32) (join_with_byte 32 (next ∷ words)))
    (word_above word parts.0) rest

-- a text that is split up to a byte that stands in no line begins with none
pub no_line_with : (text : List ℕ) (words : List (List ℕ)) (from at : ℕ) → IsSplit text words from at
    → is_inside (get_or text at 0) ≡ false → get_or text at 0 ≢ 10 → get_or text at 0 ≢ 32 → (ws : List (List ℕ))
    (behind : List ℕ) → IsTrue (list_all (list_all is_inside) ws) → text ≢ text_of_words ws ++ behind
no_line_with text words from at split outside no_feed no_space ws behind inside is =
    let prefix = join_with_byte 32 ws in
    let same = is ∙ append_assoc prefix (10 ∷ []) behind in
    elim (cases_lt at (length prefix)) [
      | inl within ↦
          let here : get_or text at 0 ≡ get_or prefix at 0 =
          ap (λ t. get_or t at 0) same ∙ get_or-append prefix (10 ∷ behind) 0 at within in
          let low : get_or prefix at 0 < 32 = omega (arith, ltb-false 32 (get_or text at 0) outside, here, no_space) in
          false≢true (sym (list_all_at (nat_le 32) prefix at 0 within (lt-leb 32 (get_or prefix at 0) low))
          ∙ words_above ws inside)
      | inr before ↦ none_more text at split.none no_feed (length prefix) (omega arith)
          (ap (λ t. get_or t (length prefix) 0) same ∙ get_or_at prefix 10 behind 0 (length prefix) refl)
    ]
