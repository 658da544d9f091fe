-- A text has at most one bad line in a format.
use Rattle.std.proofs.Common.{◌≡◌, ℕ, ◌+◌, ◌<◌, IsTrue, List, [], ◌∷◌, ◌++◌, length, inl, inr, refl, sym, ap, subst}
use Rattle.std.proofs.Common.{◌∙◌, arith, append_assoc}
use Rattle.std.proofs.lemmas.Bool.{cases_lt, cases_order}
use Rattle.std.proofs.lemmas.List.{append_cancel_left}
use Rattle.eve_workload.specs.Lines.{Line, line_words, line_text}
use Rattle.eve_workload.specs.Steps.{is_line, IsRightBehind, AreRightLines, text_before, IsBadLine}
use Rattle.eve_workload.proofs.LineLaws.{same_line, line_inside, line_some, unique_words}

-- texts that begin with a line each, and are the same, begin with the same line
first_line : (l m : Line) (s t : List ℕ) → IsTrue (is_line l) → IsTrue (is_line m) → line_text l ++ s ≡ line_text m ++ t
    → (l ≡ m) × (s ≡ t)
first_line l m s t right right' same =
    let words = unique_words (line_words l) (line_words m) s t (line_some l) (line_some m) (line_inside l right)
    (line_inside m right') same in
    let line = same_line l m right right' words in
    (line, append_cancel_left (line_text m) s t (ap (λ x. line_text x ++ s) (sym line) ∙ same))

-- as many lines in front of the same text are the same lines
pub same_lines : (f g : ℕ) (b c : List Line) (s t : List ℕ) → AreRightLines f b → AreRightLines g c
    → length b ≡ length c
    → text_before b ++ s
    ≡ text_before c ++ t → (b ≡ c) × (s ≡ t)
same_lines f g [] [] s t right right' count same = (refl, same)
same_lines f g [] (m ∷ c) s t right right' count same = absurd (omega arith)
same_lines f g (l ∷ b) [] s t right right' count same = absurd (omega arith)
same_lines f g (l ∷ b) (m ∷ c) s t right right' count same =
    let prefix = same_lines f g b c (line_text l ++ s) (line_text m ++ t) right.1 right'.1 (omega arith)
    (sym (append_assoc (text_before b) (line_text l) s) ∙ same ∙ append_assoc (text_before c) (line_text m) t) in
    let last = first_line l m s t right.0.ranges right'.0.ranges prefix.1 in
    ((λ i. last.0 i ∷ prefix.0 i), last.1)

-- where more lines stand in front of the same text, a line that may stand there follows the fewer
pub follows_fewer : (format : ℕ) (b c : List Line) (s t : List ℕ) → AreRightLines format b → AreRightLines format c
    → length b < length c
    → text_before b ++ s ≡ text_before c ++ t → (line : Line) × (behind : List ℕ) × (s ≡ line_text line ++ behind)
    × IsRightBehind format b line
follows_fewer format b [] s t right right' fewer same = absurd (omega arith)
follows_fewer format b (m ∷ c) s t right right' fewer same =
    let here = same ∙ append_assoc (text_before c) (line_text m) t in
    elim (cases_lt (length b) (length c)) [
      | inl less ↦ follows_fewer format b c s (line_text m ++ t) right right'.1 less here
      | inr most ↦
          let as_many : length b ≡ length c = (let n = most in omega arith) in
          let equal = same_lines format format b c s (line_text m ++ t) right right'.1 as_many here in
          (m, t, equal.1, subst (λ x. IsRightBehind format x m) (sym equal.0) right'.0)
    ]

pub one_bad_line : (format : ℕ) (text : List ℕ) (m n : ℕ) → IsBadLine format text m → IsBadLine format text n → m ≡ n
one_bad_line format text m n bad bad' =
    elim (cases_order (length bad.before) (length bad'.before)) [
      | inl equal ↦ bad.count ∙ ap (λ k. k + 1) equal ∙ sym bad'.count
      | inr apart ↦
          elim apart [
            | inl less ↦
                let next = follows_fewer format bad.before bad'.before bad.rest bad'.rest bad.right bad'.right less
                (sym bad.text ∙ bad'.text) in
                absurd (bad.wrong next.0 next.1 next.2 next.3)
            | inr more ↦
                let next = follows_fewer format bad'.before bad.before bad'.rest bad.rest bad'.right bad.right more
                (sym bad'.text ∙ bad.text) in
                absurd (bad'.wrong next.0 next.1 next.2 next.3)
          ]
    ]
