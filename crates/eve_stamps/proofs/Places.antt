-- What a binary search finds among rows that rise.
use Rattle.std.proofs.Common.{◌≡◌, ℕ, pos, zero, suc, ◌<◌, ◌≤◌, ◌==◌, List, [], ◌∷◌, length, get_or, Option, Result, Ok}
use Rattle.std.proofs.Common.{Err, refl, sym, subst, ap, inl, inr, arith}
use Rattle.std.specs.Result.{result_ok}
use Rattle.std.specs.List.{AllByRecursion}
use Rattle.std.specs.List.Sorted.{IsSearchInRange, IsBinarySearchResult, IsNonDecreasingBy}
use Rattle.std.specs.Ordering.{nat_cmp, ordering_index}
use Rattle.std.proofs.lemmas.Cmp.{ranked}
use Rattle.std.proofs.lemmas.List.Sorted.{IsNonDecreasingBy-from_default}
use Rattle.std.proofs.lemmas.List.Recursion.{or_from_places}
use Rattle.std.proofs.lemmas.Option.{slice_get-get_or}
use Rattle.std.proofs.lemmas.Bool.{ne_eqb, cases_lt}
use Rattle.std.proofs.lemmas.Bool.Decides.{nat_tests}
use Rattle.eve_stamps.specs.Stripes.{HeldRow, lies_in, RowsRise}
use Rattle.eve_stamps.specs.HeldRows.{IsPlaceOf}

abbrev nowhere : HeldRow
nowhere = record { row = 0; version = 0; value = pos 0 }

abbrev row_of : List HeldRow → ℕ → ℕ
row_of rows i = (get_or rows i nowhere).row

above_at : (row : ℕ) (rows : List HeldRow) (i : ℕ) → AllByRecursion (λ q. row < q.row) rows → i < length rows
    → row < row_of rows i
above_at row [] i above within = absurd (omega arith)
above_at row (r ∷ rows) zero above within = above.0
above_at row (r ∷ rows) (suc i) above within = above_at row rows i above.1 (omega arith)

rises_at : (rows : List HeldRow) → RowsRise rows → (i j : ℕ) → i < j → j < length rows → row_of rows i < row_of rows j
rises_at [] rise i j less within = absurd (omega arith)
rises_at (r ∷ rows) rise zero zero less within = absurd (omega arith)
rises_at (r ∷ rows) rise (suc i) zero less within = absurd (omega arith)
rises_at (r ∷ rows) rise zero (suc j) less within = above_at r.row rows j rise.0 (omega arith)
rises_at (r ∷ rows) rise (suc i) (suc j) less within = rises_at rows rise.1 i j (omega arith) (omega arith)

-- the comparisons with a row rise along the rows
comparisons_rise : (rows : List HeldRow) (row : ℕ) → RowsRise rows
    → IsNonDecreasingBy (λ r. ordering_index (nat_cmp r.row row)) rows
comparisons_rise rows row rise = IsNonDecreasingBy-from_default (λ r. ordering_index (nat_cmp r.row row)) rows nowhere
    (λ i j le within.
    let keys_rise : row_of rows i ≤ row_of rows j =
    grind (arith, rises_at rows rise i j, λ (same : i ≡ j). ap (row_of rows) same) in
    grind (arith, nat_tests))

found : (rows : List HeldRow) (row : ℕ) → RowsRise rows → (r : Result ℕ ℕ) → IsSearchInRange r (length rows)
    → IsBinarySearchResult (λ q. nat_cmp q.row row) rows r → IsPlaceOf rows row (result_ok r)
found rows row rise (Ok at) within equal =
    (get_or rows at nowhere, slice_get-get_or rows at nowhere within, ranked _ row _ (sym (equal nowhere)))
found rows row rise (Err at) within parted =
    let sides = parted (comparisons_rise rows row rise) in
    or_from_places (λ (rs : List HeldRow). lies_in rs row) (λ r. r.row == row) refl (λ r rs. refl) rows nowhere
    (λ i inside. ne_eqb (row_of rows i) row
    (elim (cases_lt i at) [
      | inl before ↦ let less : row_of rows i < row = ranked _ row _ (sym (sides.0 i nowhere (omega arith) before)) in
          (λ same. omega arith)
      | inr behind ↦ let more : row < row_of rows i = ranked _ row _ (sym (sides.1 i nowhere behind inside)) in
          (λ same. omega arith)
    ]))

pub place_found : (rows : List HeldRow) (row key : ℕ) (r : Result ℕ ℕ) (o : Option ℕ) → RowsRise rows → key ≡ row
    → IsSearchInRange r (length rows) → IsBinarySearchResult (λ q. nat_cmp q.row key) rows r
    → o ≡ result_ok r → IsPlaceOf rows row o
place_found rows row key r o rise same within is told =
    subst (IsPlaceOf rows row) (sym told)
    (found rows row rise r within (subst (λ k. IsBinarySearchResult (λ q. nat_cmp q.row k) rows r) same is))
