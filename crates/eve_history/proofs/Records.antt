-- Each index of a right attempt has its access record.
use Rattle.std.proofs.Common.{◌≡◌, ℕ, suc, ◌+◌, ◌<◌, ◌≤◌, ◌==◌, nat_le, Bool, true, false, ◌||◌, cond, ltb, List, []}
use Rattle.std.proofs.Common.{◌∷◌, ◌++◌, map, length, None, IsTrue, refl, sym, ap, subst, ◌∙◌, inl, inr, zero-add}
use Rattle.std.proofs.Common.{arith}
use Rattle.std.specs.List.{AllByRecursion, list_all, list_any}
use Rattle.std.proofs.lemmas.Bool.{cases_Bool, cases_eq, and_parts, and_from, not-true, eqb-true, ne_eqb, ltb-true}
use Rattle.std.proofs.lemmas.Bool.{leb-true, cond-false}
use Rattle.std.proofs.lemmas.List.{map-append, length-map}
use Rattle.eve_grammar.specs.Trace.{Access, Attempt, Attempts, Trace}
use Rattle.eve_grammar.specs.Limits.{is_number, is_between, is_step, is_attempt}
use Rattle.eve_grammar.specs.Certificate.{occurrences, all_below, is_permutation, keeps_groups}
use Rattle.eve_grammar.specs.Accesses.{is_new_access, is_right_place}
use Rattle.eve_history.specs.Section.{SectionState, batch_at, is_due, request_count, worker_count, is_right_attempt}
use Rattle.eve_history.specs.Section.{is_right_certificate, are_right_accesses}
use Rattle.eve_history.specs.inner.FirstWrong.{wrong_step}
use Rattle.eve_grammar.proofs.Orders.{occurrences-append, permutes, all_below_at}
use Rattle.eve_history.proofs.StructureLaws.{right_step}

abbrev index_of : Access → ℕ
index_of x = x.index

new_parts : (workers count : ℕ) (before : List Access) (x : Access) → is_new_access workers count before x ≡ true
    → (x.index < count) × (list_any (λ y. y.index == x.index) before ≡ false)
new_parts workers count before x new =
    let one = and_parts (ltb x.worker workers) _ new in
    let two = and_parts (ltb x.index count) _ one.1 in
    (ltb-true x.index count two.0, not-true (list_any (λ y. y.index == x.index) before) two.1)

all_small : (t : Trace) (a : Attempt) (before xs : List Access) → are_right_accesses t a before xs ≡ true
    → list_all (λ i. ltb i (request_count t a)) (map index_of xs) ≡ true
all_small t a before [] right = refl
all_small t a before (x ∷ xs) right =
    let one = and_parts (is_new_access (worker_count t a) (request_count t a) before x) _ right in
    let two = and_parts (is_right_place before x) _ one.1 in
    let parts = and_parts (ltb x.worker (worker_count t a)) _ one.0 in
    let small = and_parts (ltb x.index (request_count t a)) _ parts.1 in
    and_from (ltb x.index (request_count t a)) _ small.0 (all_small t a (before ++ x ∷ []) xs two.1)

-- an index that no record has
absent : (i : ℕ) (xs : List Access) → list_any (λ y. y.index == i) xs ≡ false → occurrences i (map index_of xs) ≡ 0
absent i [] none = refl
absent i (x ∷ xs) none = by (x.index == i) none (absent i xs)
  where
    by : (b : Bool) → (b || list_any (λ y. y.index == i) xs) ≡ false
        → (list_any (λ y. y.index == i) xs ≡ false → occurrences i (map index_of xs) ≡ 0)
        → cond b (suc (occurrences i (map index_of xs))) (occurrences i (map index_of xs)) ≡ 0
    by true h rest = absurd (cc)
    by false h rest = rest h

-- and one that some record has
pub present : (i : ℕ) (xs : List Access) → 0 < occurrences i (map index_of xs) → list_any (λ y. y.index == i) xs ≡ true
present i xs some = elim (cases_Bool (list_any (λ y. y.index == i) xs)) [
  | inl h ↦ h
  | inr none ↦ let zero_is = absent i xs none in absurd (omega arith)
]

-- no index twice
at_most_once : (t : Trace) (a : Attempt) (i : ℕ) (before xs : List Access) → are_right_accesses t a before xs ≡ true
    → occurrences i (map index_of before) ≤ 1
    → occurrences i (map index_of before) + occurrences i (map index_of xs) ≤ 1
at_most_once t a i before [] right few = omega arith
at_most_once t a i before (x ∷ xs) right few =
    let one = and_parts (is_new_access (worker_count t a) (request_count t a) before x) _ right in
    let two = and_parts (is_right_place before x) _ one.1 in
    let new = new_parts (worker_count t a) (request_count t a) before x one.0 in
    let split : occurrences i (map index_of (before ++ x ∷ [])) ≡ occurrences i (map index_of before) + occurrences i
    (x.index ∷ []) =
    ap (occurrences i) (map-append index_of before (x ∷ []))
    ∙ occurrences-append i (map index_of before) (x.index ∷ []) in
    let joined : occurrences i (map index_of (x ∷ xs)) ≡ occurrences i (x.index ∷ []) + occurrences i
    (map index_of xs) = occurrences-append i (x.index ∷ []) (map index_of xs) in
    let first : occurrences i (map index_of before) + occurrences i (x.index ∷ []) ≤ 1 = elim (cases_eq x.index i) [
      | inl same ↦
          let none : occurrences i (map index_of before) ≡ 0 =
          absent i before (subst (λ (j : ℕ). list_any (λ (y : Access). y.index == j) before ≡ false) same new.1) in
          let own = alone i x.index in
          omega arith
      | inr other ↦
          let none : occurrences i (x.index ∷ []) ≡ 0 = apart i x.index other in
          omega arith
    ] in
    let rest = at_most_once t a i (before ++ x ∷ []) xs two.1 (subst (λ (n : ℕ). n ≤ 1) (sym split) first) in
    omega arith
  where
    alone : (i j : ℕ) → occurrences i (j ∷ []) ≤ 1
    alone i j = by (j == i)
      where
        by : (b : Bool) → cond b 1 0 ≤ 1
        by true = omega arith
        by false = omega arith

    apart : (i j : ℕ) → (j ≡ i → ⊥) → occurrences i (j ∷ []) ≡ 0
    apart i j other = cond-false (j == i) 1 0 (ne_eqb j i other)

-- the records of an attempt whose certificate and access records are right have all indexes of its certificate
pub each_there : (t : Trace) (b : Attempt) → length b.certificate ≡ request_count t b
    → is_right_certificate t b ≡ true → are_right_accesses t b [] b.accesses ≡ true
    → length b.accesses ≡ length b.certificate → length b.certificate ≤ 256
    → AllByRecursion (λ i. (i < 256) × IsTrue (list_any (λ y. y.index == i) b.accesses)) b.certificate
each_there t b count certificate accesses many few =
    let r = request_count t b in
    let ys = map index_of b.accesses in
    let size : length ys ≡ r = length-map b.accesses index_of ∙ many ∙ count in
    let small : list_all (λ i. ltb i (length ys)) ys ≡ true = ap (λ (n : ℕ). list_all (λ i. ltb i n) ys) size
    ∙ all_small t b [] b.accesses accesses in
    let once : (i : ℕ) → occurrences i ys ≤ 1 = λ i. subst (λ (n : ℕ). n ≤ 1) (zero-add (occurrences i ys))
    (at_most_once t b i [] b.accesses accesses (omega arith)) in
    let each = (and_parts (list_all (λ i. ltb i (length ys)) ys) (all_below (length ys) (λ i. occurrences i ys == 1))
    (permutes ys small (λ i lt. once i))).1 in
    let own = (and_parts (list_all (λ i. ltb i r) b.certificate) _
    (and_parts (is_permutation r b.certificate) _
    (and_parts (keeps_groups (batch_at t b.seq).sizes r b.certificate) _ certificate).0).0).0 in
    by b.certificate own (λ i lt. present i b.accesses
    (let e = eqb-true (occurrences i ys) 1
    (all_below_at (length ys) (λ i. occurrences i ys == 1) i each (omega (arith, size))) in omega arith))
    (omega arith)
  where
    by : (order : List ℕ) → list_all (λ i. ltb i (request_count t b)) order ≡ true
        → ((i : ℕ) → i < request_count t b → list_any (λ y. y.index == i) b.accesses ≡ true) → request_count t b ≤ 256
        → AllByRecursion (λ i. (i < 256) × IsTrue (list_any (λ y. y.index == i) b.accesses)) order
    by [] all there le = tt
    by (i ∷ order) all there le =
        let parts = and_parts (ltb i (request_count t b)) _ all in
        let lt = ltb-true i (request_count t b) parts.0 in
        ((omega arith, there i lt), by order parts.1 there le)

-- and so those of a right attempt
pub all_there : (t : Trace) (s : SectionState) (at : ℕ) (b : Attempt) → wrong_step t s (at, Attempts b) ≡ None
    → length b.accesses ≡ length b.certificate → length b.certificate ≤ 256
    → AllByRecursion (λ i. (i < 256) × IsTrue (list_any (λ y. y.index == i) b.accesses)) b.certificate
all_there t s at b nothing many few =
    let one = and_parts (is_right_attempt t s b) _ (right_step t s (at, Attempts b) nothing) in
    let two = and_parts (is_right_certificate t b) (are_right_accesses t b [] b.accesses) one.1 in
    each_there t b
    (eqb-true (length b.certificate) (request_count t b) (and_parts (is_due t s b) _ one.0).1)
    two.0 two.1 many few

-- ---- what a right form says of an attempt

pub attempt_fits : (rows : ℕ) (b : Attempt) → is_step rows (Attempts b) ≡ true → (length b.certificate ≤ 256)
    × (length b.accesses ≡ length b.certificate)
attempt_fits rows b fits =
    let one = and_parts (is_attempt b) _ fits in
    let two = and_parts (length b.accesses == length b.certificate) _ one.1 in
    let seq = and_parts (is_number 4 b.seq) _ one.0 in
    let view = and_parts (is_number 4 b.view) _ seq.1 in
    let count = and_parts (is_between 1 256 (length b.certificate)) _ view.1 in
    let most = and_parts (nat_le 1 (length b.certificate)) (nat_le (length b.certificate) 256) count.0 in
    (leb-true (length b.certificate) 256 most.1, eqb-true (length b.accesses) (length b.certificate) two.0)
