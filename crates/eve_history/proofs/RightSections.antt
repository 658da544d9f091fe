-- Public: other crates cite these lemmas. What is told of a right section.
use Rattle.std.proofs.Common.{◌≡◌, ℕ, suc, ◌+◌, ◌<◌, ◌≤◌, IsTrue, List, [], ◌∷◌, map, length, Some}
use Rattle.std.proofs.Common.{slice_get, refl, sym, ap, subst, ◌∙◌, inl, inr, arith}
use Rattle.std.specs.List.{enumerate_from}
use Rattle.std.proofs.lemmas.Bool.{cases_lt}
use Rattle.std.proofs.lemmas.List.{get_or_past}
use Rattle.std.proofs.lemmas.Option.{same_Some}
use Rattle.eve_grammar.specs.Trace.{Step, Trace}
use Rattle.eve_grammar.specs.Frames.{OfReplica}
use Rattle.eve_grammar.specs.Spelling.{frame_text, step_text, located, section_start, steps_at}
use Rattle.eve_grammar.proofs.Numbered.{numbered_at}
use Rattle.eve_history.specs.Section.{start, are_right}
use Rattle.eve_history.specs.SectionHistory.{SectionHistory, section_history, section_histories, IsRightSection}

right_told : (t : Trace) (e : ℕ) → IsTrue (section_history t e).right → IsRightSection t e
unfolding section_history
right_told t e right = right

pub right_section : (t : Trace) (e : ℕ) (h : SectionHistory) → h ≡ section_history t e → IsTrue h.right
    → IsRightSection t e
right_section t e h is right = right_told t e (subst (λ (v : SectionHistory). IsTrue v.right) is right)

-- ---- of all replicas

-- after the last replica there are no steps
pub none_at : (t : Trace) (e : ℕ) → length t.sections ≤ e → steps_at t e ≡ []
unfolding steps_at
none_at t e le = ap (located step_text (section_start t e + length (frame_text (OfReplica e))))
    (get_or_past t.sections e [] le)

pub right_beyond : (t : Trace) (e : ℕ) → length t.sections ≤ e → IsRightSection t e
right_beyond t e le = subst (λ (xs : List (ℕ × Step)). IsTrue (are_right t start xs)) (sym (none_at t e le)) refl

-- what is told of a replica stands at its place
pub section_history_at : (t : Trace) (e : ℕ) → e < length t.sections → slice_get (section_histories t) e
    ≡ Some (section_history t e)
unfolding section_histories
section_history_at t e lt = numbered_at (section_history t) t.sections e lt

count_told : {A B : Type 0} (f : ℕ × A → B) (n : ℕ) (xs : List A) → length (map f (enumerate_from n xs)) ≡ length xs
count_told f n [] = refl
count_told f n (x ∷ xs) = ap suc (count_told f (n + 1) xs)

pub as_many_told : (t : Trace) → length (section_histories t) ≡ length t.sections
unfolding section_histories
as_many_told t = count_told (λ s. section_history t s.0) 0 t.sections

-- all of the first so many are right
abbrev pub AreRight : List SectionHistory → ℕ → Type 0
AreRight hs n = (e : ℕ) (h : SectionHistory) → e < n → slice_get hs e ≡ Some h → IsTrue h.right

pub all_right : (t : Trace) (hs : List SectionHistory) (n : ℕ) → length hs ≤ n → AreRight hs n
    → hs ≡ section_histories t → (e : ℕ)
    → IsRightSection t e
all_right t hs n many right is e = elim (cases_lt e (length t.sections)) [
  | inl lt ↦
      let count = ap length is ∙ as_many_told t in
      right_told t e (right e (section_history t e) (omega arith) (ap (λ (xs : List SectionHistory). slice_get xs e) is
      ∙ section_history_at t e lt))
  | inr le ↦ right_beyond t e le
]

-- one more
pub right_more : (hs : List SectionHistory) (n : ℕ) (g : SectionHistory) → AreRight hs n → slice_get hs n ≡ Some g
    → IsTrue g.right
    → AreRight hs (n + 1)
right_more hs n g right at own = λ e h lt got. elim (cases_lt e n) [
  | inl less ↦ right e h less got
  | inr more ↦
      let same : e ≡ n = omega arith in
      subst (λ (v : SectionHistory). IsTrue v.right) (same_Some g h (sym at ∙ ap (slice_get hs) (sym same) ∙ got)) own
]
