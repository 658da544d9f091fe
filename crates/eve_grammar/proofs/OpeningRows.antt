-- Public: other crates cite these lemmas. The opening balances, customer by customer.
use Rattle.std.proofs.Common.{◌≡◌, ℕ, ℤ, suc, ◌+◌, ◌*◌, ◌<◌, List, [], ◌∷◌, ◌++◌, take, length, set, slice_get, Some}
use Rattle.std.proofs.Common.{refl, sym, ap, ◌∙◌, append_assoc, arith}
use Rattle.std.proofs.lemmas.List.{take_more, take_more_set, length-set}
use Rattle.std.proofs.lemmas.Option.{get_or_from_slice_get, slice_get_within}
use Rattle.std.proofs.lemmas.Grind.{flat_map-append}
use Rattle.eve_grammar.specs.Trace.{Customer, opening_rows}

pub length-opening_rows : (xs : List Customer) → length (opening_rows xs) ≡ 2 * length xs
length-opening_rows [] = refl
length-opening_rows (x ∷ xs) = twice (length (opening_rows xs)) (length xs) (length-opening_rows xs)
  where
    twice : (m n : ℕ) → m ≡ 2 * n → suc (suc m) ≡ 2 * suc n
    twice m n e = omega arith

-- one customer more, whose two rows get its balances
pub opening_more : (customers : List Customer) (i : ℕ) (c : Customer) (old : List ℤ) (saving checking : ℤ)
    → slice_get customers i ≡ Some c → length old ≡ 2 * length customers
    → take (2 * i) old ≡ opening_rows (take i customers) → saving ≡ c.saving → checking ≡ c.checking
    → take (2 * (i + 1)) (set (set old (2 * i) saving) (2 * i + 1) checking) ≡ opening_rows (take (i + 1) customers)
opening_more customers i c old saving checking at long so own other =
    let there : i < length customers = slice_get_within customers i c at in
    let rows : 2 * (i + 1) ≡ 2 * i + 1 + 1 = omega arith in
    let one : 2 * i < length old = omega arith in
    let same : length (set old (2 * i) saving) ≡ length old = length-set old (2 * i) saving in
    let two : 2 * i + 1 < length (set old (2 * i) saving) = omega arith in
    ap (λ n. take n (set (set old (2 * i) saving) (2 * i + 1) checking)) rows
    ∙ take_more_set (set old (2 * i) saving) (2 * i + 1) checking two
    ∙ ap (λ (xs : List ℤ). xs ++ checking ∷ []) (take_more_set old (2 * i) saving one)
    ∙ append_assoc (take (2 * i) old) (saving ∷ []) (checking ∷ [])
    ∙ ap (λ (xs : List ℤ). xs ++ saving ∷ checking ∷ []) so
    ∙ ap (λ (z : ℤ). opening_rows (take i customers) ++ z ∷ checking ∷ []) own
    ∙ ap (λ (z : ℤ). opening_rows (take i customers) ++ c.saving ∷ z ∷ []) other
    ∙ sym (flat_map-append (λ (d : Customer). d.saving ∷ d.checking ∷ []) (take i customers) (c ∷ []))
    ∙ ap (λ (d : Customer). opening_rows (take i customers ++ d ∷ [])) (sym (get_or_from_slice_get customers i c c at))
    ∙ ap opening_rows (sym (take_more customers i c there))
