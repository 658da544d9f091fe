-- A function that has another value at one number, and the least and the greatest that passes.
use Rattle.std.proofs.Common.{◌≡◌, ℕ, zero, suc, ◌+◌, ◌-◌, ◌<◌, ◌≤◌, Bool, true, false, cond, ◌==◌, Option, Some, None}
use Rattle.std.proofs.Common.{is_none, refl, sym, subst, ap, ◌∙◌, inl, inr, arith}
use Rattle.std.proofs.lemmas.Bool.{cases_Bool, cases_eq, eqb-true, eqb-false, eq-eqb, ne_eqb, cond-true, cond-false}
use Rattle.std.proofs.lemmas.Bool.{false≢true}
use Rattle.std.proofs.lemmas.Option.{same_Some}
use Rattle.eve_stamps_schedule.specs.Stripes.{least_from, greatest_below}
use Rattle.eve_stamps_schedule.specs.Events.{changed}

-- ---- numbers

pub below_itself : {m n : ℕ} → m ≡ n → m < n → ⊥
below_itself e h = omega arith

-- ---- changed functions

-- the value of a changed function, whether at the change or elsewhere
pub at_change : {A : Type 0} (P : ℕ → A → Type 0) (f : ℕ → A) (i : ℕ) (x : A) (j : ℕ) → P i x → (¬ (j ≡ i) → P j (f j))
    → P j (changed f i x j)
at_change P f i x j p q =
    elim (cases_Bool (j == i)) [
      | inl same ↦ subst (λ c. P j (cond c x (f j))) (sym same) (subst (λ k. P k x) (sym (eqb-true j i same)) p)
      | inr other ↦ subst (λ c. P j (cond c x (f j))) (sym other) (q (eqb-false j i other))
    ]

pub changed-here : {A : Type 0} (f : ℕ → A) (i : ℕ) (x : A) → changed f i x i ≡ x
changed-here f i x = cond-true (i == i) x (f i) (eq-eqb i i refl)

pub changed-other : {A : Type 0} (f : ℕ → A) (i : ℕ) (x : A) (j : ℕ) → ¬ (j ≡ i) → changed f i x j ≡ f j
changed-other f i x j h = cond-false (j == i) x (f j) (ne_eqb j i h)

-- ---- sums over the numbers below n

abbrev pub counted : {A : Type 0} → (A → ℕ) → (ℕ → A) → ℕ → ℕ
counted f g zero = 0
counted f g (suc n) = counted f g n + f (g n)

counted-outside : {A : Type 0} (f : A → ℕ) (g : ℕ → A) (v : ℕ) (x : A) (n : ℕ) → n ≤ v → counted f (changed g v x) n
    ≡ counted f g n
counted-outside f g v x zero h = refl
counted-outside f g v x (suc n) h =
    let before = counted-outside f g v x n (omega arith) in
    let here = ap f (changed-other g v x n (λ e. omega arith)) in
    omega (arith, before, here)

pub counted-changed : {A : Type 0} (f : A → ℕ) (g : ℕ → A) (v : ℕ) (x : A) (n : ℕ) → v < n
    → counted f (changed g v x) n + f (g v) ≡ counted f g n + f x
counted-changed f g v x zero h = absurd (omega arith)
counted-changed f g v x (suc n) h =
    elim (cases_eq v n) [
      | inl e ↦
          let before : counted f (changed g v x) n ≡ counted f g n = counted-outside f g v x n (omega arith) in
          let here : f (changed g v x n) ≡ f x = ap (λ k. f (changed g v x k)) (sym e) ∙ ap f (changed-here g v x) in
          let there : f (g v) ≡ f (g n) = ap (λ k. f (g k)) e in
          omega (arith, before, here, there)
      | inr e ↦
          let before : counted f (changed g v x) n + f (g v) ≡ counted f g n + f x =
          counted-changed f g v x n (omega arith) in
          let here : f (changed g v x n) ≡ f (g n) = ap f (changed-other g v x n (λ k. e (sym k))) in
          omega (arith, before, here)
    ]

pub counted-at_least : {A : Type 0} (f : A → ℕ) (g : ℕ → A) (v n : ℕ) → v < n → f (g v) ≤ counted f g n
counted-at_least f g v zero h = absurd (omega arith)
counted-at_least f g v (suc n) h =
    elim (cases_eq v n) [
      | inl e ↦
          let there : f (g v) ≡ f (g n) = ap (λ k. f (g k)) e in
          omega (arith, there)
      | inr e ↦
          let before : f (g v) ≤ counted f g n = counted-at_least f g v n (omega arith) in
          omega (arith, before)
    ]

-- ---- what passes

pub greatest_passes : (n : ℕ) (test : ℕ → Bool) (s : ℕ) → greatest_below n test ≡ Some s → test s ≡ true
greatest_passes zero test s e = absurd (none_some s e)
  where
    none_some : (s : ℕ) → ◌≡◌ {A = Option ℕ} None (Some s) → ⊥
    none_some s e = cc
greatest_passes (suc n) test s e =
    elim (cases_Bool (test n)) [
      | inl t ↦ subst (λ k. test k ≡ true) (same_Some n s
          (sym (cond-true (test n) (Some n) (greatest_below n test) t) ∙ e)) t
      | inr f ↦ greatest_passes n test s (sym (cond-false (test n) (Some n) (greatest_below n test) f) ∙ e)
    ]

-- where there is no least, none passes
pub none_passes : (i n : ℕ) (test : ℕ → Bool) → is_none (least_from i n test) ≡ true → (s : ℕ) → i ≤ s → s < i + n
    → test s ≡ false
none_passes i zero test e s low high = absurd (omega arith)
none_passes i (suc n) test e s low high =
    elim (cases_Bool (test i)) [
      | inl t ↦ absurd (false≢true (ap is_none (sym (cond-true (test i) (Some i) (least_from (suc i) n test) t)) ∙ e))
      | inr f ↦ elim (cases_eq s i) [
        | inl same ↦ ap test same ∙ f
        | inr other ↦ none_passes (suc i) n test
            (ap is_none (sym (cond-false (test i) (Some i) (least_from (suc i) n test) f)) ∙ e) s (omega arith)
            (omega arith)
      ]
    ]

-- the first that passes is the least
pub least_is : (i n : ℕ) (test : ℕ → Bool) (s : ℕ) → i ≤ s → s < i + n → test s ≡ true
    → ((r : ℕ) → r < s → test r ≡ false) → least_from i n test ≡ Some s
least_is i zero test s low high t none = absurd (omega arith)
least_is i (suc n) test s low high t none =
    elim (cases_eq i s) [
      | inl same ↦
          let here : test i ≡ true = ap test same ∙ t in
          cond-true (test i) (Some i) (least_from (suc i) n test) here ∙ ap Some same
      | inr other ↦
          cond-false (test i) (Some i) (least_from (suc i) n test) (none i (omega arith))
          ∙ least_is (suc i) n test s (omega arith) (omega arith) t none
    ]

-- where none passes there is no least
pub least_none : (i n : ℕ) (test : ℕ → Bool) → ((r : ℕ) → test r ≡ false) → least_from i n test ≡ None
least_none i zero test none = refl
least_none i (suc n) test none = cond-false (test i) (Some i) (least_from (suc i) n test) (none i)
    ∙ least_none (suc i) n test none

-- where the highest passes it is the greatest
pub greatest_at : (n : ℕ) (test : ℕ → Bool) → 0 < n → test (n - 1) ≡ true → greatest_below n test ≡ Some (n - 1)
greatest_at zero test some t = absurd (omega arith)
greatest_at (suc n) test some t =
    let same : suc n - 1 ≡ n = omega arith in
    cond-true (test n) (Some n) (greatest_below n test) (ap test (sym same) ∙ t) ∙ ap Some (sym same)

-- where it doesn't, the greatest is below it
pub greatest_down : (n : ℕ) (test : ℕ → Bool) → 0 < n → test (n - 1) ≡ false → greatest_below n test
    ≡ greatest_below (n - 1) test
greatest_down zero test some f = absurd (omega arith)
greatest_down (suc n) test some f =
    let same : suc n - 1 ≡ n = omega arith in
    cond-false (test n) (Some n) (greatest_below n test) (ap test (sym same) ∙ f)
    ∙ ap (λ k. greatest_below k test) (sym same)

-- what passes is one of them
pub least_small : (i n : ℕ) (test : ℕ → Bool) (s : ℕ) → least_from i n test ≡ Some s → s < i + n
least_small i zero test s e = absurd (cc)
least_small i (suc n) test s e =
    elim (cases_Bool (test i)) [
      | inl t ↦ let same : i ≡ s = same_Some i s (sym (cond-true (test i) (Some i) (least_from (suc i) n test) t) ∙ e)
          in omega arith
      | inr f ↦ let rest : s < suc i + n =
          least_small (suc i) n test s (sym (cond-false (test i) (Some i) (least_from (suc i) n test) f) ∙ e) in
          omega arith
    ]

pub greatest_small : (n : ℕ) (test : ℕ → Bool) (s : ℕ) → greatest_below n test ≡ Some s → s < n
greatest_small zero test s e = absurd (cc)
greatest_small (suc n) test s e =
    elim (cases_Bool (test n)) [
      | inl t ↦ let same : n ≡ s = same_Some n s (sym (cond-true (test n) (Some n) (greatest_below n test) t) ∙ e) in
          omega arith
      | inr f ↦ let rest : s < n = greatest_small n test s (sym (cond-false (test n) (Some n) (greatest_below n test) f)
          ∙ e) in omega arith
    ]
