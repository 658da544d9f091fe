-- Lines of the items of a list, one after another.
use Rattle.std.proofs.Common.{◌≡◌, ℕ, ◌+◌, ◌≤◌, List, [], map, length, take, drop, Some, ap, sym, ◌∙◌}
use Rattle.std.proofs.Math.ListN.{drop_of_length-le}
use Rattle.std.specs.List.{enumerate_from, slice_get}
use Rattle.eve_grammar.proofs.Lists.{drop_here}
use Rattle.eve_reasons.specs.Lines.{Kept, and_line, and_lines}

-- with the lines of the items that are still to come, from number i on
abbrev pub and_items : {A : Type 0} → (ℕ × A → List ℕ) → ℕ → List A → Kept → Kept
and_items f i xs k = and_lines (map f (enumerate_from i (drop i xs))) k

-- with the line of the next item
pub says_next : {A : Type 0} (f : ℕ × A → List ℕ) (k next : Kept) (xs : List A) (i : ℕ) (x : A)
    → slice_get xs i ≡ Some x → next ≡ and_line (f (i, x)) k → and_items f (i + 1) xs next ≡ and_items f i xs k
says_next f k next xs i x at decoded =
    ap (λ l. and_items f (i + 1) xs l) decoded
    ∙ ap (λ l. and_lines (map f (enumerate_from i l)) k) (sym (drop_here xs i x at))

-- with those of the first items, all of which have been said
pub decoded_all : {A : Type 0} (f : ℕ × A → List ℕ) (xs : List A) (few many i : ℕ) (k start : Kept)
    → few ≡ many → length (take few xs) ≤ i → and_items f i (take few xs) k ≡ and_items f 0 (take few xs) start
    → k ≡ and_lines (map f (enumerate_from 0 (take many xs))) start
decoded_all f xs few many i k start is past same =
    let none : drop i (take few xs) ≡ [] = drop_of_length-le (take few xs) past in
    sym (ap (λ l. and_lines (map f (enumerate_from i l)) k) none) ∙ same
    ∙ ap (λ n. and_lines (map f (enumerate_from 0 (take n xs))) start) is
