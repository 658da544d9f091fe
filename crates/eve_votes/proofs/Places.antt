-- Public: other crates cite these lemmas. Places of a list, and what stands there.
use Rattle.std.proofs.Common.{◌≡◌, ℕ, zero, suc, ◌+◌, List, [], ◌∷◌, ◌++◌, map, length, take, drop}
use Rattle.std.proofs.Common.{Some, refl, ap, ◌∙◌, arith}
use Rattle.std.specs.Prelude.{slice_get}
use Rattle.std.specs.List.{enumerate_from}
use Rattle.eve_grammar.specs.Trace.{Batch}
use Rattle.eve_grammar.specs.Spelling.{located}
use Rattle.eve_views.specs.Form.{SomePlace}
use Rattle.eve_views.proofs.Lists.{cut_at}

pub place_at : {A : Type 0} (P : List A → A → Type 0) (xs : List A) (i : ℕ) (x : A) → slice_get xs i ≡ Some x
    → P (take i xs) x → SomePlace xs P
place_at P xs i x e holds =
    record { before = take i xs; item = x; rest = drop (suc i) xs; is = cut_at xs i x e; holds = holds }

pub get_between : {A : Type 0} (before : List A) (x : A) (rest : List A)
    → slice_get (before ++ x ∷ rest) (length before) ≡ Some x
get_between [] x rest = refl
get_between (y ∷ ys) x rest = get_between ys x rest

pub get_place : {A : Type 0} {P : List A → A → Type 0} (xs : List A) (s : SomePlace xs P)
    → slice_get xs (length s.before) ≡ Some s.item
get_place xs s = ap (λ (zs : List _). slice_get zs (length s.before)) s.is ∙ get_between s.before s.item s.rest

-- ---- lists with byte offsets

pub located_values : {A : Type 0} (text : A → List ℕ) (at : ℕ) (xs : List A) → map (λ w. w.1) (located text at xs) ≡ xs
located_values text at [] = refl
located_values text at (x ∷ xs) = ap (λ (zs : List _). x ∷ zs) (located_values text (at + length (text x)) xs)

-- numbered batches
pub numbered : (text : ℕ × Batch → List ℕ) (at first : ℕ) (bs : List Batch) (i : ℕ) (b : ℕ × (ℕ × Batch))
    → slice_get (located text at (enumerate_from first bs)) i ≡ Some b → b.1.0 ≡ first + i
numbered text at first [] i b e = absurd cc
numbered text at first (c ∷ cs) zero b e =
    (let same : b ≡ (at, (first, c)) = cc in
    let number : b.1.0 ≡ first = ap (λ (x : ℕ × (ℕ × Batch)). x.1.0) same in
    omega arith)
numbered text at first (c ∷ cs) (suc i) b e =
    (let inner = numbered text (at + length (text (first, c))) (first + 1) cs i b e in omega (arith, inner))
