-- The next stripe of a request whose rows lie in two stripes at most.
use Rattle.std.proofs.Common.{◌≡◌, ℕ, ◌<◌, ◌≤◌, Bool, true, false, not, ◌&&◌, ◌||◌, ◌==◌, Some, None, refl, sym, ap}
use Rattle.std.proofs.Common.{ap₂, ◌∙◌, inl, inr, arith}
use Rattle.std.proofs.lemmas.Bool.{cases_Bool, eqb-true, eq-eqb, ne_eqb, or_left, or_right, and_right}
use Rattle.eve_stamps.specs.declared.limits.TheConstants.{STRIPES}
use Rattle.eve_stamps_schedule.specs.Stripes.{least_from}
use Rattle.eve_stamps_schedule.proofs.Changes.{least_is, least_none}

-- of these stripes the ones that pass the test are the first and the last
abbrev pub AreEnds : (ℕ → Bool) → ℕ → ℕ → Type 0
AreEnds test first last = (s : ℕ) → test s ≡ (first == s || last == s)

neither : (first last s : ℕ) → ¬ (first ≡ s) → ¬ (last ≡ s) → (first == s || last == s) ≡ false
neither first last s f l = ap₂ (λ a b. a || b) (ne_eqb first s f) (ne_eqb last s l)

-- what is owned isn't next
owned : (a b : Bool) → b ≡ true → (a && not b) ≡ false
owned a b own = ap (λ c. a && not c) own ∙ and_right a false refl

free : (a b : Bool) → a ≡ true → b ≡ false → (a && not b) ≡ true
free a b need none = ap₂ (λ c d. c && not d) need none

pub first_is_next : (test own : ℕ → Bool) (first last : ℕ) → AreEnds test first last → first ≤ last
    → last < STRIPES → own first ≡ false
    → least_from 0 STRIPES (λ s. test s && not (own s)) ≡ Some first
first_is_next test own first last ends rise small none =
    least_is 0 STRIPES (λ s. test s && not (own s)) first (omega arith) (omega arith)
    (free (test first) (own first) (ends first ∙ or_left (first == first) (last == first) (eq-eqb first first refl))
    none)
    (λ r less. ap (λ b. b && not (own r)) (ends r ∙ neither first last r (λ e. omega arith) (λ e. omega arith)))

pub last_is_next : (test own : ℕ → Bool) (first last : ℕ) → AreEnds test first last → first ≤ last → last < STRIPES
    → own first ≡ true → own last ≡ false
    → least_from 0 STRIPES (λ s. test s && not (own s)) ≡ Some last
last_is_next test own first last ends rise small has none =
    least_is 0 STRIPES (λ s. test s && not (own s)) last (omega arith) (omega arith)
    (free (test last) (own last) (ends last ∙ or_right (first == last) (last == last) (eq-eqb last last refl)) none)
    (λ r less. elim (cases_Bool (first == r)) [
      | inl same ↦ owned (test r) (own r) (ap own (sym (eqb-true first r same)) ∙ has)
      | inr other ↦ ap (λ b. b && not (own r)) (ends r ∙ ap₂ (λ a b. a || b) other (ne_eqb last r (λ e. omega arith)))
    ])

pub none_is_next : (test own : ℕ → Bool) (first last : ℕ) → AreEnds test first last → own first ≡ true → own last ≡ true
    → least_from 0 STRIPES (λ s. test s && not (own s)) ≡ None
none_is_next test own first last ends one two =
    least_none 0 STRIPES (λ s. test s && not (own s)) (λ r. elim (cases_Bool (first == r)) [
      | inl same ↦ owned (test r) (own r) (ap own (sym (eqb-true first r same)) ∙ one)
      | inr other ↦ elim (cases_Bool (last == r)) [
        | inl same ↦ owned (test r) (own r) (ap own (sym (eqb-true last r same)) ∙ two)
        | inr else ↦ ap (λ b. b && not (own r)) (ends r ∙ ap₂ (λ a b. a || b) other else)
      ]
    ])
