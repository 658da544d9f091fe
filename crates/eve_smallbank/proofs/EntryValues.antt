-- Public: other crates cite these lemmas. The values that one, two or three entries saw, as a list.
use Rattle.std.proofs.Common.{◌≡◌, ℤ, List, [], ◌∷◌, map, length, take, slice_get, Some, sym, ap, ap₂, arith}
use Rattle.std.proofs.lemmas.Option.{same_Some}
use Rattle.eve_smallbank.specs.declared.entry.Entry.{Entry}

pub seen_by_one : (es : List Entry) (a : Entry) (rest : List ℤ) → length es ≡ 1 → slice_get es 0 ≡ Some a
    → take (length es) (a.seen ∷ rest) ≡ map (λ e. e.seen) es
seen_by_one [] a rest n at = absurd (omega (arith, n))
seen_by_one (d ∷ []) a rest n at = ap (λ (e : Entry). e.seen ∷ []) (sym (same_Some d a at))
seen_by_one (d ∷ e ∷ es) a rest n at = absurd (omega (arith, n))

pub seen_by_two : (es : List Entry) (a b : Entry) (rest : List ℤ) → length es ≡ 2 → slice_get es 0 ≡ Some a
    → slice_get es 1 ≡ Some b → take (length es) (a.seen ∷ b.seen ∷ rest) ≡ map (λ e. e.seen) es
seen_by_two [] a b rest n at next = absurd (omega (arith, n))
seen_by_two (d ∷ es) a b rest n at next =
    let few : length es ≡ 1 = omega (arith, n) in
    ap₂ (λ (e : Entry) (xs : List ℤ). e.seen ∷ xs) (sym (same_Some d a at)) (seen_by_one es b rest few next)

pub seen_by_three : (es : List Entry) (a b c : Entry) → length es ≡ 3 → slice_get es 0 ≡ Some a
    → slice_get es 1 ≡ Some b → slice_get es 2 ≡ Some c
    → take (length es) (a.seen ∷ b.seen ∷ c.seen ∷ []) ≡ map (λ e. e.seen) es
seen_by_three [] a b c n at next last = absurd (omega (arith, n))
seen_by_three (d ∷ es) a b c n at next last =
    let few : length es ≡ 2 = omega (arith, n) in
    ap₂ (λ (e : Entry) (xs : List ℤ). e.seen ∷ xs) (sym (same_Some d a at)) (seen_by_two es b c [] few next last)
