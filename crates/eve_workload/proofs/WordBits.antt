-- Bits of a list of words of 64.
use Rattle.std.proofs.Common.{◌≡◌, ◌≢◌, ℕ, suc, zero, ◌+◌, ◌*◌, ◌/◌, ◌%◌, ◌^◌, ◌-◌, ◌<◌, ◌≤◌, ◌==◌, true, false, List}
use Rattle.std.proofs.Common.{length, inl, inr, refl, sym, ap, ◌∙◌, arith, bit_or, max}
use Rattle.std.specs.Prelude.{slice_index_or, ◌||◌, slice_set}
use Rattle.std.specs.Int.{bit_at, w64, trailing_ones}
use Rattle.std.proofs.lemmas.Bool.{eq-eqb, ne_eqb, cases_eq, cases_lt, or_right}
use Rattle.std.proofs.Math.Bool.{or-false}
use Rattle.std.proofs.lemmas.List.{get_or-set_same, get_or-set_other}
use Rattle.std.proofs.lemmas.Nat.Bits.{bit_at_set_same, bit_at_set_other, bit_at_or, bit_at-lt}
use Rattle.std.proofs.lemmas.Nat.Bits.{bit_at_ones, bit_at-trailing_ones}

-- the bit with this number
abbrev pub bit_of : List ℕ → ℕ → ℕ
bit_of words at = bit_at (slice_index_or words (at / 64) 0) (at % 64)

pub same_parts : (m n : ℕ) → m / 64 ≡ n / 64 → m % 64 ≡ n % 64 → m ≡ n
same_parts m n high low = omega (arith, high, low)

module _ (words : List ℕ) (g : ℕ) (there : g / 64 < length words) where
  -- the words with the bit g set
  abbrev added : List ℕ
  added = slice_set words (g / 64) (bit_or (slice_index_or words (g / 64) 0) (1 * 2 ^ (g % 64) % 2 ^ 64))

  same_bit : bit_of added g ≡ 1
  same_bit =
      ap (λ w. bit_at w (g % 64))
      (get_or-set_same words (g / 64) (bit_or (slice_index_or words (g / 64) 0) (1 * 2 ^ (g % 64) % 2 ^ 64)) 0
      there)
      ∙ bit_at_set_same w64 (slice_index_or words (g / 64) 0) (g % 64) (omega arith)

  other_bit : (other : ℕ) → other ≢ g → bit_of added other ≡ bit_of words other
  other_bit other apart =
      let word : ℕ = bit_or (slice_index_or words (g / 64) 0) (1 * 2 ^ (g % 64) % 2 ^ 64) in
      elim (cases_eq (other / 64) (g / 64)) [
        | inl high ↦
            ap (λ k. bit_at (slice_index_or added k 0) (other % 64)) high
            ∙ ap (λ w. bit_at w (other % 64)) (get_or-set_same words (g / 64) word 0 there)
            ∙ bit_at_set_other w64 (slice_index_or words (g / 64) 0) (g % 64) (omega arith) (other % 64)
            (λ low. apart (same_parts other g high low))
            ∙ ap (λ k. bit_at (slice_index_or words k 0) (other % 64)) (sym high)
        | inr high ↦ ap (λ w. bit_at w (other % 64)) (get_or-set_other words (g / 64) (other / 64) word 0 high)
      ]

  pub bit_added : (other : ℕ) → (bit_of added other == 1) ≡ ((bit_of words other == 1) || (other == g))
  bit_added other =
      elim (cases_eq other g) [
        | inl same ↦
            ap (λ n. bit_of added n == 1) same ∙ ap (λ n. n == 1) same_bit
            ∙ sym (or_right (bit_of words other == 1) (other == g) (eq-eqb other g same))
        | inr apart ↦
            ap (λ n. n == 1) (other_bit other apart) ∙ sym (or-false (bit_of words other == 1))
            ∙ ap (λ b. (bit_of words other == 1) || b) (sym (ne_eqb other g apart))
      ]

either : (a b : ℕ) → a < 2 → b < 2 → (max a b == 1) ≡ ((a == 1) || (b == 1))
either zero zero small small' = refl
either zero (suc zero) small small' = refl
either zero (suc (suc b)) small small' = absurd (omega arith)
either (suc zero) zero small small' = refl
either (suc zero) (suc zero) small small' = refl
either (suc zero) (suc (suc b)) small small' = absurd (omega arith)
either (suc (suc a)) b small small' = absurd (omega arith)

-- a bit of two numbers
pub bit_of_both : (m n i : ℕ) → (bit_at (bit_or m n) i == 1) ≡ ((bit_at m i == 1) || (bit_at n i == 1))
bit_of_both m n i = ap (λ b. b == 1) (bit_at_or m n i) ∙ either (bit_at m i) (bit_at n i) (bit_at-lt m i)
    (bit_at-lt n i)

-- ---- the first bit that isn't set

module _ (words : List ℕ) (place from : ℕ) (from_is : from ≡ 64 * place)
    (set : (at : ℕ) → at < from → (bit_of words at == 1) ≡ true) where
  at_word : (at : ℕ) → from ≤ at → at < from + 64 → (at / 64 ≡ place) × (at % 64 ≡ at - from)
  at_word at low high = (omega (arith, from_is, low, high), omega (arith, from_is, low, high))

  here : (at : ℕ) → from ≤ at → at < from + 64 → bit_of words at ≡ bit_at (slice_index_or words place 0) (at - from)
  here at low high = let parts = at_word at low high in (λ i. bit_at (slice_index_or words (parts.0 i) 0) (parts.1 i))

  module _ (small : slice_index_or words place 0 < 2 ^ 64) (some : slice_index_or words place 0 ≢ 2 ^ 64 - 1) where
    lowest : let t = trailing_ones w64 (slice_index_or words place 0) in
        (t < 64) × (bit_at (slice_index_or words place 0) t ≡ 0)
        × ((i : ℕ) → i < t → bit_at (slice_index_or words place 0) i ≡ 1)
    lowest = bit_at-trailing_ones w64 (slice_index_or words place 0) (omega (arith, small, some))

    pub lowest_unset : (bit_of words (from + trailing_ones w64 (slice_index_or words place 0)) == 1) ≡ false
    lowest_unset =
        let t : ℕ = trailing_ones w64 (slice_index_or words place 0) in
        let below : t < 64 = lowest.0 in
        ap (λ b. b == 1) (here (from + t) (omega arith) (omega arith)
        ∙ ap (bit_at (slice_index_or words place 0)) (let e : from + t - from ≡ t = omega arith in e) ∙ lowest.1)

    pub set_below : (at : ℕ) → at < from + trailing_ones w64 (slice_index_or words place 0) → (bit_of words at == 1)
        ≡ true
    set_below at below =
        let t : ℕ = trailing_ones w64 (slice_index_or words place 0) in
        let most : t < 64 = lowest.0 in
        elim (cases_lt at from) [
          | inl before ↦ set at before
          | inr low ↦ ap (λ b. b == 1) (here at low (omega arith) ∙ lowest.2 (at - from) (omega arith))
        ]

  pub set_past : slice_index_or words place 0 ≡ 2 ^ 64 - 1 → (at : ℕ) → at < from + 64 → (bit_of words at == 1) ≡ true
  set_past all at below =
      elim (cases_lt at from) [
        | inl before ↦ set at before
        | inr low ↦
            ap (λ b. b == 1) (here at low below ∙ ap (λ w. bit_at w (at - from)) all
            ∙ bit_at_ones 64 (at - from) (omega arith))
      ]
