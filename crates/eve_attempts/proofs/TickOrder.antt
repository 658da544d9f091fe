-- Public: other crates cite these lemmas. There is one order of the ticks.
use Rattle.std.proofs.Common.{◌≡◌, ◌≢◌, ℕ, suc, ◌+◌, ◌<◌, ◌≤◌, ◌==◌, Bool, true, false, cond, ◌||◌, ◌&&◌, ltb, IsTrue}
use Rattle.std.proofs.Common.{List, [], ◌∷◌, refl, sym, subst, ap, ap₂, ◌∙◌, inl, inr, ◌⊎◌, arith}
use Rattle.std.specs.Prelude.{All, sum_by}
use Rattle.std.specs.List.{AllByRecursion, list_all}
use Rattle.std.specs.List.Sorted.{IsPermutation}
use Rattle.std.proofs.lemmas.Bool.{cases_lt, and_parts, and_from, or_right, eqb-true, eq-eqb, ltb-true, lt-ltb}
use Rattle.std.proofs.lemmas.Bool.{cond-true, false≢true}
use Rattle.std.proofs.lemmas.List.Sums.{sum_by-cons}
use Rattle.std.proofs.lemmas.List.Elements.{All-nil, All-cons, recursion_from_All}
use Rattle.std.proofs.lemmas.List.Sorted.{All-permutation, IsPermutation-sym, IsPermutation-trans, sum_by-IsPermutation}
use Rattle.eve_smallbank.proofs.Members.{In, here, there, all_in, all_from_in, in_cons}
use Rattle.eve_grammar.specs.Certificate.{occurrences, all_below, is_permutation}
use Rattle.eve_grammar.proofs.Orders.{all_below_at, none_above}
use Rattle.eve_stamps.specs.Applied.{Applied}
use Rattle.eve_attempts.specs.ClosedAttempts.{is_earlier_record, TicksRise, indexes_of}
use Rattle.eve_attempts.specs.inner.RecordKeys.{IsNoLaterRecord, TicksDontFall}

-- ---- before and not after

before_parts : (r q : Applied) → IsTrue (is_earlier_record r q) → (r.tick < q.tick)
    ⊎ ((r.tick ≡ q.tick) × (r.index < q.index))
before_parts r q h = by (ltb r.tick q.tick) (r.tick == q.tick) (ltb r.index q.index) refl refl refl h
  where
    by : (a b d : Bool) → ltb r.tick q.tick ≡ a → (r.tick == q.tick) ≡ b → ltb r.index q.index ≡ d → (a || (b && d))
        ≡ true → (r.tick < q.tick) ⊎ ((r.tick ≡ q.tick) × (r.index < q.index))
    by true b d e f g t = inl (ltb-true r.tick q.tick e)
    by false true true e f g t = inr (eqb-true r.tick q.tick f, ltb-true r.index q.index g)
    by false true false e f g t = absurd (false≢true t)
    by false false d e f g t = absurd (false≢true t)

pub before_not_after : (r q : Applied) → IsTrue (is_earlier_record r q) → IsNoLaterRecord r q
before_not_after r q h = elim (before_parts r q h) [
  | inl lt ↦ record { tick = omega arith; index = λ le. absurd (omega arith) }
  | inr same ↦ let e = same.0 in let f = same.1 in record { tick = omega arith; index = λ le. omega arith }
]

-- a record that comes before another doesn't come after it too
pub before_clash : (r q : Applied) → IsTrue (is_earlier_record r q) → IsNoLaterRecord q r → ⊥
before_clash r q h back = elim (before_parts r q h) [
  | inl lt ↦ let t = back.tick in omega arith
  | inr same ↦ let e = same.0 in let f = same.1 in let i = back.index (omega arith) in omega arith
]

not_after_before : (r q : Applied) → IsNoLaterRecord r q → r.index ≢ q.index → IsTrue (is_earlier_record r q)
not_after_before r q h other = elim (cases_lt r.tick q.tick) [
  | inl lt ↦ ap (λ a. a || ((r.tick == q.tick) && ltb r.index q.index)) (lt-ltb r.tick q.tick lt)
  | inr ge ↦
      let t = h.tick in
      let i = h.index ge in
      let e : r.tick ≡ q.tick = omega arith in
      let lt : r.index < q.index = elim (cases_lt r.index q.index) [ inl l ↦ l | inr g ↦ absurd (other (omega arith)) ]
      in
      or_right (ltb r.tick q.tick) ((r.tick == q.tick) && ltb r.index q.index)
      (and_from (r.tick == q.tick) (ltb r.index q.index) (eq-eqb r.tick q.tick e) (lt-ltb r.index q.index lt))
]

-- ---- indexes that differ

-- how often an index stands there
abbrev has_index : ℕ → Applied → ℕ
has_index i r = cond (r.index == i) 1 0

occurrences-sum : (i : ℕ) (rs : List Applied) → occurrences i (indexes_of rs) ≡ sum_by (has_index i) rs
occurrences-sum i [] = refl
occurrences-sum i (r ∷ rs) = by (r.index == i) (occurrences-sum i rs) ∙ sym (sum_by-cons (has_index i) r rs)
  where
    by : (b : Bool) → occurrences i (indexes_of rs) ≡ sum_by (has_index i) rs
        → cond b (suc (occurrences i (indexes_of rs))) (occurrences i (indexes_of rs))
        ≡ cond b 1 0 + sum_by (has_index i) rs
    by true e = omega arith
    by false e = omega arith

-- each index at most once
abbrev pub AreDistinct : List Applied → Type 0
AreDistinct rs = (i : ℕ) → occurrences i (indexes_of rs) ≤ 1

pub distinct_permutation : (r : ℕ) (rs : List Applied) → is_permutation r (indexes_of rs) ≡ true → AreDistinct rs
distinct_permutation r rs h i =
    let parts = and_parts (list_all (λ j. ltb j r) (indexes_of rs))
    (all_below r (λ j. occurrences j (indexes_of rs) == 1)) h in
    elim (cases_lt i r) [
      | inl lt ↦ let once = eqb-true (occurrences i (indexes_of rs)) 1
          (all_below_at r (λ j. occurrences j (indexes_of rs) == 1) i parts.1 lt) in omega arith
      | inr ge ↦ let none = none_above r i (indexes_of rs) parts.0 ge in omega arith
    ]

pub distinct_moved : (rs qs : List Applied) → IsPermutation rs qs → AreDistinct rs → AreDistinct qs
distinct_moved rs qs same distinct i =
    let is : occurrences i (indexes_of qs) ≡ occurrences i (indexes_of rs) = occurrences-sum i qs
    ∙ sum_by-IsPermutation (has_index i) rs qs same ∙ sym (occurrences-sum i rs) in
    let h = distinct i in
    omega arith

occurs : (q : Applied) (rs : List Applied) → In q rs → 0 < occurrences q.index (indexes_of rs)
occurs q [] i = elim i [ ]
occurs q (r ∷ rs) here = let e = cond-true (q.index == q.index) (suc (occurrences q.index (indexes_of rs)))
    (occurrences q.index (indexes_of rs)) (eq-eqb q.index q.index refl) in omega arith
occurs q (r ∷ rs) (there i) = by (r.index == q.index) (occurs q rs i)
  where
    by : (b : Bool) → 0 < occurrences q.index (indexes_of rs) → 0 < cond b (suc (occurrences q.index (indexes_of rs)))
        (occurrences q.index (indexes_of rs))
    by true h = omega arith
    by false h = h

distinct_rest : (r : Applied) (rs : List Applied) → AreDistinct (r ∷ rs) → AreDistinct rs
distinct_rest r rs distinct i = by (r.index == i) (distinct i)
  where
    by : (b : Bool) → cond b (suc (occurrences i (indexes_of rs))) (occurrences i (indexes_of rs)) ≤ 1
        → occurrences i (indexes_of rs) ≤ 1
    by true h = omega arith
    by false h = h

-- the first has no index that one after it has
distinct_first : (r : Applied) (rs : List Applied) (q : Applied) → AreDistinct (r ∷ rs) → In q rs → r.index ≢ q.index
distinct_first r rs q distinct i same =
    let some = occurs q rs i in
    let e = cond-true (r.index == q.index) (suc (occurrences q.index (indexes_of rs)))
    (occurrences q.index (indexes_of rs)) (eq-eqb r.index q.index same) in
    let h = distinct q.index in
    omega arith

-- records whose indexes differ and whose ticks don't fall rise
pub rises : (rs : List Applied) → TicksDontFall rs → AreDistinct rs → TicksRise rs
rises [] up distinct = tt
rises (r ∷ rs) up distinct = (
  all_from_in (λ q. IsTrue (is_earlier_record r q)) rs
      (λ q i. not_after_before r q (all_in (IsNoLaterRecord r) up.0 i) (distinct_first r rs q distinct i)),
  rises rs up.1 (distinct_rest r rs distinct),
)

-- ---- one order

-- each member of the one is a member of the other
abbrev pub AreAmong : List Applied → List Applied → Type 0
AreAmong xs ys = (z : Applied) → In z xs → In z ys

same_first : (x y : Applied) (xs ys : List Applied) → TicksRise (x ∷ xs) → TicksRise (y ∷ ys)
    → AreAmong (x ∷ xs) (y ∷ ys) → AreAmong (y ∷ ys) (x ∷ xs) → x ≡ y
same_first x y xs ys up uq one two = by (in_cons ys (one x here)) (in_cons xs (two y here))
  where
    by : (x ≡ y) ⊎ In x ys → (y ≡ x) ⊎ In y xs → x ≡ y
    by (inl e) j = e
    by (inr i) (inl e) = sym e
    by (inr i) (inr j) = absurd
        (before_clash x y (all_in (λ q. IsTrue (is_earlier_record x q)) up.0 j)
        (before_not_after y x (all_in (λ q. IsTrue (is_earlier_record y q)) uq.0 i)))

among_rest : (x : Applied) (xs ys : List Applied) → TicksRise (x ∷ xs) → AreAmong (x ∷ xs) (x ∷ ys) → AreAmong xs ys
among_rest x xs ys up one z i = by (in_cons ys (one z (there i)))
  where
    by : (z ≡ x) ⊎ In z ys → In z ys
    by (inl e) = absurd (before_clash x z (all_in (λ q. IsTrue (is_earlier_record x q)) up.0 i)
        (record {
          tick = let h = ap (λ (r : Applied). r.tick) e in omega arith;
          index = λ le. let h = ap
              (λ (r : Applied). r.index) e in omega arith;
        }))
    by (inr j) = j

pub one_order : (xs ys : List Applied) → TicksRise xs → TicksRise ys → AreAmong xs ys → AreAmong ys xs → xs ≡ ys
one_order [] [] up uq one two = refl
one_order [] (y ∷ ys) up uq one two = elim (two y here) [ ]
one_order (x ∷ xs) [] up uq one two = elim (one x here) [ ]
one_order (x ∷ xs) (y ∷ ys) up uq one two = by y (same_first x y xs ys up uq one two) uq one two
    (λ a b d. one_order xs ys up.1 a.1 (among_rest x xs ys up b) (among_rest x ys xs a d))
  where
    by : (y : Applied) → x ≡ y → TicksRise (y ∷ ys) → AreAmong (x ∷ xs) (y ∷ ys) → AreAmong (y ∷ ys) (x ∷ xs)
        → (TicksRise (x ∷ ys) → AreAmong (x ∷ xs) (x ∷ ys) → AreAmong (x ∷ ys) (x ∷ xs) → xs ≡ ys) → x ∷ xs ≡ y ∷ ys
    by y same uq one two rest =
        let P : Applied → Type 0 = λ z. TicksRise (z ∷ ys) × AreAmong (x ∷ xs) (z ∷ ys) × AreAmong (z ∷ ys) (x ∷ xs) in
        let at : P x = subst P (sym same) (uq, one, two) in
        ap₂ (λ (z : Applied) (zs : List Applied). z ∷ zs) same (rest at.0 at.1 at.2)

-- ---- moved

pub all_to : {A : Type 0} (P : A → Type 0) (xs : List A) → AllByRecursion P xs → All P xs
all_to P [] all = All-nil P
all_to P (x ∷ xs) all = All-cons P x xs all.0 (all_to P xs all.1)

pub all_moved : {A : Type 0} (P : A → Type 0) (xs ys : List A) → IsPermutation xs ys → AllByRecursion P xs
    → AllByRecursion P ys
all_moved P xs ys same all = recursion_from_All P ys (All-permutation P xs ys same (all_to P xs all))

among_moved : (xs ys : List Applied) → IsPermutation xs ys → AreAmong ys xs
among_moved xs ys same z i =
    all_in (λ y. In y xs) (all_moved (λ y. In y xs) xs ys same (all_from_in (λ y. In y xs) xs (λ y j. j))) i

-- the records in the order of their ticks are those of any order in which the ticks don't fall, if their indexes differ
pub same_order : (records ordered mine : List Applied) → IsPermutation records ordered → TicksRise ordered
    → AreDistinct ordered → IsPermutation records mine → TicksDontFall mine → mine ≡ ordered
same_order records ordered mine same up distinct moved down =
    let across : IsPermutation ordered mine = IsPermutation-trans ordered records mine
    (IsPermutation-sym records ordered same) moved in
    one_order mine ordered (rises mine down (distinct_moved ordered mine across distinct)) up
    (among_moved ordered mine across) (among_moved mine ordered (IsPermutation-sym ordered mine across))
