-- Public: other crates cite these lemmas. Whether the parallelBatches never fall along an order.
use Rattle.std.proofs.Common.{◌≡◌, ◌≢◌, ℕ, zero, suc, ◌+◌, ◌-◌, ◌<◌, ◌≤◌, ◌==◌, nat_le, Bool, true, false, ◌&&◌, leb}
use Rattle.std.proofs.Common.{ltb, List, [], ◌∷◌, length, get_or, set, replicate, take, drop, slice_get, sum, Some}
use Rattle.std.proofs.Common.{IsTrue, refl, sym, ap, subst, ◌∙◌, inl, inr, add-one, arith}
use Rattle.std.proofs.lemmas.Bool.{cases_lt, cases_eq, and_parts, and_from, le-leb, lt-leb, leb-true, ltb-true}
use Rattle.std.proofs.lemmas.Bool.{eqb-true, lt-ltb, le-ltb, cond-true, cond-false}
use Rattle.std.proofs.lemmas.List.{drop_more, drop_all, take_all, length-set, length-replicate, get_or-set_same}
use Rattle.std.proofs.lemmas.List.{get_or-set_other}
use Rattle.std.proofs.lemmas.List.Sums.{sum_by-cons}
use Rattle.std.proofs.lemmas.Option.{same_Some, slice_get_within}
use Rattle.std.proofs.Math.Bool.{and-false}
use Rattle.std.specs.List.{list_all, AllByRecursion}
use Rattle.eve_grammar.specs.Trace.{Batch}
use Rattle.eve_grammar.specs.Limits.{is_batch}
use Rattle.eve_grammar.specs.Certificate.{is_permutation, group_of, is_grouped}
use Rattle.eve_grammar.specs.inner.Groups.{AreGroupNumbers}

-- what all items pass, each does
pub all_at : {A : Type 0} (p : A → Bool) (xs : List A) (i : ℕ) (x : A) → list_all p xs ≡ true → slice_get xs i ≡ Some x
    → p x ≡ true
all_at p [] i x all e = absurd (cc)
all_at p (y ∷ xs) zero x all e = ap p (sym (same_Some y x e)) ∙ (and_parts (p y) (list_all p xs) all).0
all_at p (y ∷ xs) (suc i) x all e = all_at p xs i x (and_parts (p y) (list_all p xs) all).1 e

-- none of the order lies in a parallelBatch before this one, and it is grouped
abbrev pub goes_on : List ℕ → ℕ → List ℕ → Bool
goes_on sizes last order = list_all (λ j. leb last (group_of sizes j)) order && is_grouped sizes order

pub goes_on_from : (sizes order : List ℕ) → goes_on sizes 0 order ≡ is_grouped sizes order
goes_on_from sizes order = ap (λ (b : Bool). b && is_grouped sizes order) (all order)
  where
    all : (xs : List ℕ) → list_all (λ j. leb 0 (group_of sizes j)) xs ≡ true
    all [] = refl
    all (x ∷ xs) = and_from (leb 0 (group_of sizes x)) _ (le-leb 0 (group_of sizes x) (omega arith)) (all xs)

-- what is not before a later one is not before an earlier one
above_all : (sizes : List ℕ) (m n : ℕ) (xs : List ℕ) → m ≤ n → list_all (λ j. leb n (group_of sizes j)) xs ≡ true
    → list_all (λ j. leb m (group_of sizes j)) xs ≡ true
above_all sizes m n [] le all = refl
above_all sizes m n (x ∷ xs) le all =
    let parts = and_parts (leb n (group_of sizes x)) (list_all (λ j. leb n (group_of sizes j)) xs) all in
    let lt = leb-true n (group_of sizes x) parts.0 in
    and_from (leb m (group_of sizes x)) _ (le-leb m (group_of sizes x) (omega arith))
    (above_all sizes m n xs le parts.1)

stays : (sizes : List ℕ) (last i : ℕ) (xs : List ℕ) → last ≤ group_of sizes i → goes_on sizes last (i ∷ xs)
    ≡ goes_on sizes (group_of sizes i) xs
stays sizes last i xs le = by (list_all (λ j. leb (group_of sizes i) (group_of sizes j)) xs) refl
  where
    here : leb last (group_of sizes i) ≡ true
    here = le-leb last (group_of sizes i) le

    by : (b : Bool) → list_all (λ j. leb (group_of sizes i) (group_of sizes j)) xs ≡ b → goes_on sizes last (i ∷ xs)
        ≡ goes_on sizes (group_of sizes i) xs
    by true e = let also = above_all sizes last (group_of sizes i) xs le e in rw (here, also, e) refl
    by false e = rw (here, e) (and-false (list_all (λ j. leb last (group_of sizes j)) xs))

at : (sizes order table : List ℕ) (k : ℕ) → AreGroupNumbers sizes order table → k < length order
    → get_or table (get_or order k 0) 0 ≡ group_of sizes (get_or order k 0)
at sizes [] table k are lt = absurd (omega arith)
at sizes (x ∷ order) table zero are lt = are.0
at sizes (x ∷ order) table (suc k) are lt = at sizes order table k are.1 (omega arith)

pub goes_on_more : (sizes order table : List ℕ) (k last : ℕ) → AreGroupNumbers sizes order table → k < length order
    → last ≤ get_or table (get_or order k 0) 0
    → goes_on sizes last (drop k order) ≡ is_grouped sizes order → goes_on sizes (get_or table (get_or order k 0) 0)
    (drop (k + 1) order) ≡ is_grouped sizes order
goes_on_more sizes order table k last are lt le before =
    let is = at sizes order table k are lt in
    ap (λ (g : ℕ). goes_on sizes g (drop (k + 1) order)) is
    ∙ sym (stays sizes last (get_or order k 0) (drop (k + 1) order) (omega arith))
    ∙ ap (goes_on sizes last) (sym (drop_more order k 0 lt)) ∙ before

pub falls_back : (sizes order table : List ℕ) (k last : ℕ) → AreGroupNumbers sizes order table → k < length order
    → get_or table (get_or order k 0) 0 < last
    → goes_on sizes last (drop k order) ≡ is_grouped sizes order → is_grouped sizes order ≡ false
falls_back sizes order table k last are lt less before =
    let is = at sizes order table k are lt in
    let under : leb last (group_of sizes (get_or order k 0)) ≡ false = lt-leb last (group_of sizes (get_or order k 0))
    (omega arith) in
    sym before ∙ ap (goes_on sizes last) (drop_more order k 0 lt) ∙ rw under refl

pub goes_to_end : (sizes order : List ℕ) (k last : ℕ) → length order ≤ k → goes_on sizes last (drop k order)
    ≡ is_grouped sizes order → is_grouped sizes order ≡ true
goes_to_end sizes order k last le before = sym before ∙ ap (goes_on sizes last) (drop_all k order le)

-- ---- the table

sum-cons : (x : ℕ) (xs : List ℕ) → sum (x ∷ xs) ≡ x + sum xs
sum-cons x xs = sum_by-cons (λ (y : ℕ). y) x xs

-- an index lies in the parallelBatch before whose end it stands
group_is : (sizes : List ℕ) (g i : ℕ) → sum (take g sizes) ≤ i → i < sum (take (suc g) sizes) → group_of sizes i ≡ g
group_is [] zero i from to = refl
group_is [] (suc g) i from to = absurd (omega arith)
group_is (size ∷ sizes) zero i from to = cond-true (ltb i size) 0 (suc (group_of sizes (i - size)))
    (lt-ltb i size (omega (arith, sum-cons size [])))
group_is (size ∷ sizes) (suc g) i from to =
    let start = sum-cons size (take g sizes) in
    let end = sum-cons size (take (suc g) sizes) in
    cond-false (ltb i size) 0 (suc (group_of sizes (i - size))) (le-ltb i size (omega arith))
    ∙ ap suc (group_is sizes g (i - size) (omega arith) (omega arith))

sum_more : (sizes : List ℕ) (g size : ℕ) → slice_get sizes g ≡ Some size → sum (take (suc g) sizes)
    ≡ sum (take g sizes) + size
sum_more [] g size e = absurd (cc)
sum_more (x ∷ sizes) zero size e = sum-cons x [] ∙ same x size e
  where
    same : (x size : ℕ) → Some x ≡ Some size → x + 0 ≡ 0 + size
    same x size e = let h : x ≡ size = cc in omega arith
sum_more (x ∷ sizes) (suc g) size e =
    let start = sum-cons x (take g sizes) in
    let end = sum-cons x (take (suc g) sizes) in
    omega (arith, sum_more sizes g size e)

-- so many indexes have their parallelBatch in the table; the next lies in this one, which ends here, or after it
pub record Grouping (sizes : List ℕ) (index group end : ℕ) (table : List ℕ) : Type 0 where
  pub within : group < length sizes
  pub from : sum (take group sizes) ≤ index
  pub to : end ≡ sum (take (suc group) sizes)
  pub up : index ≤ end
  pub count : group ≤ index - 1
  pub long : length table ≡ 256
  pub entries : (i : ℕ) → i < index → get_or table i 0 ≡ group_of sizes i

-- and the next lies in it
pub record Grouped (sizes : List ℕ) (index group end : ℕ) : Type 0 where
  pub within : group < length sizes
  pub from : sum (take group sizes) ≤ index
  pub to : end ≡ sum (take (suc group) sizes)
  pub up : index < end
  pub count : group ≤ index

pub grouping_start : (sizes : List ℕ) (size : ℕ) → slice_get sizes 0 ≡ Some size
    → Grouping sizes 0 0 size (replicate 256 0)
grouping_start sizes size e = record {
  within = slice_get_within sizes 0 size e;
  from = omega arith;
  to = let h = sum_more sizes 0 size e in omega arith;
  up = omega arith;
  count = omega arith;
  long = length-replicate {A = ℕ} 256 0;
  entries = λ i lt. absurd (omega arith);
}

-- where the index is at the end there is a further parallelBatch
pub goes_further : (sizes : List ℕ) (index group end : ℕ) (table : List ℕ) → Grouping sizes index group end table
    → index ≡ end → index < sum sizes → suc group < length sizes
goes_further sizes index group end table grouping at lt = elim (cases_lt (suc group) (length sizes)) [
  | inl more ↦ more
  | inr all ↦
      let whole : sum (take (suc group) sizes) ≡ sum sizes = ap sum (take_all (suc group) sizes all) in
      absurd (omega (arith, grouping.to))
]

pub grouped_further : (sizes : List ℕ) (index group end size : ℕ) (table : List ℕ)
    → Grouping sizes index group end table → index ≡ end → index < sum sizes → slice_get sizes (group + 1) ≡ Some size
    → 1 ≤ size
    → 1 ≤ end → Grouped sizes index (group + 1) (end + size)
grouped_further sizes index group end size table grouping at lt e some first =
    let next : slice_get sizes (suc group) ≡ Some size = subst (λ (g : ℕ). slice_get sizes g ≡ Some size)
    (add-one group) e in
    let more = sum_more sizes (suc group) size next in
    let one : sum (take (group + 1) sizes) ≡ sum (take (suc group) sizes) =
    ap (λ (g : ℕ). sum (take g sizes)) (add-one group) in
    let two : sum (take (suc (group + 1)) sizes) ≡ sum (take (suc (suc group)) sizes) =
    ap (λ (g : ℕ). sum (take (suc g) sizes)) (add-one group) in
    let further = goes_further sizes index group end table grouping at lt in
    record {
      within = omega arith;
      from = omega (arith, grouping.to);
      to = omega (arith, grouping.to);
      up = omega arith;
      count = omega (arith, grouping.count);
    }

pub grouped_here : (sizes : List ℕ) (index group end : ℕ) (table : List ℕ) → Grouping sizes index group end table
    → index ≢ end → Grouped sizes index group end
grouped_here sizes index group end table grouping other =
    record {
      within = grouping.within;
      from = grouping.from;
      to = grouping.to;
      up = omega (arith, grouping.up);
      count = omega (arith, grouping.count);
    }

pub grouping_more : (sizes : List ℕ) (index group end old_group old_end : ℕ) (table : List ℕ)
    → Grouping sizes index old_group old_end table → Grouped sizes index group end → index < 256
    → Grouping sizes (index + 1) group end (set table index group)
grouping_more sizes index group end old_group old_end table grouping grouped small = record {
  within = grouped.within;
  from = omega (arith, grouped.from);
  to = grouped.to;
  up = omega (arith, grouped.up);
  count = omega (arith, grouped.count);
  long = length-set table index group ∙ grouping.long;
  entries = λ i lt. elim (cases_eq i index) [
    | inl same ↦
        let long : index < length table = omega (arith, grouping.long) in
        let up : index < sum (take (suc group) sizes) = omega (arith, grouped.up, grouped.to) in
        ap (λ (j : ℕ). get_or (set table index group) j 0) same ∙ get_or-set_same table index group 0 long
        ∙ sym (group_is sizes group index grouped.from up) ∙ ap (group_of sizes) (sym same)
    | inr other ↦ get_or-set_other table index i group 0 other ∙ grouping.entries i (omega arith)
  ];
}

-- the sizes of a batch's parallelBatches
pub first_size : (b : Batch) → IsTrue (is_batch b) → 0 < length b.sizes
first_size b right = let parts = and_parts (nat_le 1 (length b.sizes)) _ right in let h =
    leb-true 1 (length b.sizes) parts.0 in omega arith

pub some_size : (b : Batch) (g size : ℕ) → IsTrue (is_batch b) → slice_get b.sizes g ≡ Some size → 1 ≤ size
some_size b g size right e =
    let parts = and_parts (nat_le 1 (length b.sizes)) _ right in
    let each = and_parts (list_all (nat_le 1) b.sizes) _ parts.1 in
    leb-true 1 size (all_at (nat_le 1) b.sizes g size each.0 e)

pub some_end : (b : Batch) (g : ℕ) → IsTrue (is_batch b) → 1 ≤ sum (take (suc g) b.sizes)
some_end b g right = by b.sizes (first_size b right) (λ size e. some_size b 0 size right e)
  where
    by : (sizes : List ℕ) → 0 < length sizes → ((size : ℕ) → slice_get sizes 0 ≡ Some size → 1 ≤ size)
        → 1 ≤ sum (take (suc g) sizes)
    by [] some each = absurd (omega arith)
    by (size ∷ sizes) some each = let one = each size refl in omega (arith, sum-cons size (take g sizes))

pub few_requests : (b : Batch) → IsTrue (is_batch b) → (length b.requests ≡ sum b.sizes) × (sum b.sizes ≤ 256)
few_requests b right =
    let one = and_parts (nat_le 1 (length b.sizes)) _ right in
    let two = and_parts (list_all (nat_le 1) b.sizes) _ one.1 in
    let three = and_parts (nat_le (sum b.sizes) 256) _ two.1 in
    let four = and_parts (length b.requests == sum b.sizes) _ three.1 in
    (eqb-true (length b.requests) (sum b.sizes) four.0, leb-true (sum b.sizes) 256 three.0)

pub some_requests : (b : Batch) → IsTrue (is_batch b) → 1 ≤ length b.requests
some_requests b right =
    let parts = and_parts (nat_le 1 (length b.sizes)) _ right in
    let each = and_parts (list_all (nat_le 1) b.sizes) _ parts.1 in
    omega (arith, (few_requests b right).0, some b.sizes parts.0 each.0)
  where
    some : (sizes : List ℕ) → nat_le 1 (length sizes) ≡ true → list_all (nat_le 1) sizes ≡ true → 1 ≤ sum sizes
    some [] one each = absurd (let none = leb-true 1 0 one in omega (arith, none))
    some (n ∷ sizes) one each =
        let parts = and_parts (nat_le 1 n) (list_all (nat_le 1) sizes) each in
        omega (arith, leb-true 1 n parts.0, sum-cons n sizes)

-- ---- an order that permutes

pub small_all : (r : ℕ) (order : List ℕ) → is_permutation r order ≡ true → r ≤ 256 → AllByRecursion (λ i. i < 256) order
small_all r order permutes few = by order (and_parts (list_all (λ i. ltb i r) order) _ permutes).0
  where
    by : (xs : List ℕ) → list_all (λ i. ltb i r) xs ≡ true → AllByRecursion (λ i. i < 256) xs
    by [] all = tt
    by (x ∷ xs) all = let parts = and_parts (ltb x r) (list_all (λ i. ltb i r) xs) all in let lt =
        ltb-true x r parts.0 in (omega arith, by xs parts.1)

pub groups_are : (sizes : List ℕ) (r : ℕ) (order table : List ℕ) → is_permutation r order ≡ true
    → ((i : ℕ) → i < r → get_or table i 0 ≡ group_of sizes i) → AreGroupNumbers sizes order table
groups_are sizes r order table permutes are = by order (and_parts (list_all (λ i. ltb i r) order) _ permutes).0
  where
    by : (xs : List ℕ) → list_all (λ i. ltb i r) xs ≡ true → AreGroupNumbers sizes xs table
    by [] all = tt
    by (x ∷ xs) all = let parts = and_parts (ltb x r) (list_all (λ i. ltb i r) xs) all in
        (are x (ltb-true x r parts.0), by xs parts.1)
