-- Sums of lists, part by part.
use Rattle.std.proofs.Common.{◌≡◌, ℕ, ◌+◌, ◌<◌, ◌≤◌, List, length, take, sum, inl, inr, arith}
use Rattle.std.specs.Prelude.{slice_index_or}
use Rattle.std.proofs.lemmas.Bool.{cases_lt}
use Rattle.std.proofs.lemmas.List.{get_or_past}
use Rattle.std.proofs.lemmas.List.Sums.{sum_by_more_le, sum_by_more}

pub sum_more : (xs : List ℕ) (i : ℕ) → i < length xs → sum (take (i + 1) xs) ≡ sum (take i xs) + slice_index_or xs i 0
sum_more xs i there = sum_by_more (λ (y : ℕ). y) xs i 0 there

-- a number is at most the sum of all
pub within_sum : (xs : List ℕ) (i : ℕ) → slice_index_or xs i 0 ≤ sum xs
within_sum xs i =
    elim (cases_lt i (length xs)) [
      | inl there ↦ let most = sum_by_more_le (λ (y : ℕ). y) xs i 0 there in omega (arith, most)
      | inr past ↦ let none = get_or_past xs i 0 past in omega (arith, none)
    ]
