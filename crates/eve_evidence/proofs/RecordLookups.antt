-- Records and places that are looked up.
use Rattle.std.proofs.Common.{◌≡◌, ◌≢◌, ℕ, zero, suc, ◌+◌, ◌*◌, ◌/◌, ◌%◌, ◌≤◌, ◌==◌, Bool, true, false, cond, List, []}
use Rattle.std.proofs.Common.{◌∷◌, ◌++◌, length, map, take, drop, slice_get, get_or, Some, refl, sym, ap}
use Rattle.std.proofs.Common.{subst, ◌∙◌, arith, append_assoc, pos}
use Rattle.std.specs.Prelude.{IsFalse}
use Rattle.std.specs.List.{AllByRecursion, list_any, flat_map}
use Rattle.std.proofs.lemmas.Bool.{eq-eqb, ne_eqb, cond-true, cond-false, false≢true}
use Rattle.std.proofs.lemmas.List.{map-append, take-append-drop, get_or_past}
use Rattle.std.proofs.lemmas.Option.{same_Some}
use Rattle.eve_smallbank.specs.Access.{writes_row}
use Rattle.eve_grammar.specs.Trace.{Access, Customer, Trace, opening_rows}
use Rattle.eve_grammar.specs.Spelling.{customers_at, customer_text}
use Rattle.eve_grammar.specs.declared.head.TheConstants.{HEADER_LEN}
use Rattle.eve_grammar.proofs.Lists.{drop_here, all-append}
use Rattle.eve_grammar.proofs.OpeningRows.{length-opening_rows}
use Rattle.eve_views.proofs.FrameOffsets.{located_get}
use Rattle.eve_history.specs.SectionHistory.{access_with, no_access}
use Rattle.eve_chains.specs.Visible.{before_index, opening_of}
use Rattle.eve_evidence.specs.declared.course.OnPath.{OnPath}
use Rattle.eve_evidence.specs.declared.sources.Left.{Left}
use Rattle.eve_evidence.specs.Course.{placed_on}
use Rattle.eve_evidence.specs.Sources.{Passed, passed_by, passed, passed_in, IsWriter, NoneWrites}
use Rattle.eve_evidence.specs.inner.Lasts.{IsLeftAlone, IsLast}
use Rattle.eve_evidence.proofs.LastWrites.{last_here, last_inside}

-- ---- a record by its index

pub with_at : (xs : List (ℕ × Access)) (i : ℕ) (x : ℕ × Access) (index : ℕ) → slice_get xs i ≡ Some x
    → AllByRecursion (λ z. z.1.index ≢ index) (take i xs) → x.1.index ≡ index → access_with xs index ≡ x
with_at [] i x index got all is = absurd cc
with_at (y ∷ xs) zero x index got all is =
    let same : y ≡ x = same_Some y x got in
    cond-true (y.1.index == index) y (access_with xs index)
    (eq-eqb y.1.index index (ap (λ (z : ℕ × Access). z.1.index) same ∙ is)) ∙ same
with_at (y ∷ xs) (suc i) x index got all is =
    cond-false (y.1.index == index) y (access_with xs index) (ne_eqb y.1.index index all.0)
    ∙ with_at xs i x index got all.1 is

pub with_none : (xs : List (ℕ × Access)) (index : ℕ) → AllByRecursion (λ z. z.1.index ≢ index) xs
    → access_with xs index ≡ no_access
with_none [] index all = refl
with_none (y ∷ xs) index all =
    cond-false (y.1.index == index) y (access_with xs index) (ne_eqb y.1.index index all.0) ∙ with_none xs index all.1

-- where no record writes the row, the one of an index doesn't
pub with_kept : (P : ℕ × Access → Type 0) → P no_access → (xs : List (ℕ × Access)) (i : ℕ) → AllByRecursion P xs
    → P (access_with xs i)
with_kept P none [] i all = none
with_kept P none (y ∷ xs) i all = by (y.1.index == i) (with_kept P none xs i all.1)
  where
    by : (b : Bool) → P (access_with xs i) → P (cond b y (access_with xs i))
    by true rest = all.0
    by false rest = rest

abbrev pub WritesNot : ℕ → ℕ × Access → Type 0
WritesNot row x = IsFalse (list_any (writes_row row) x.1.entries)

pub none_of : (row seq : ℕ) (xs : List (ℕ × Access)) (order : List ℕ) → AllByRecursion (WritesNot row) xs
    → NoneWrites row (passed seq xs order)
none_of row seq xs [] all = tt
none_of row seq xs (i ∷ order) all =
    (λ w. false≢true (sym (with_kept (WritesNot row) refl xs i all) ∙ w), none_of row seq xs order all)

-- ---- the indexes before one

pub before_at : (order : List ℕ) (k index : ℕ) → slice_get order k ≡ Some index
    → AllByRecursion (λ j. j ≢ index) (take k order) → take k order ≡ before_index index order
before_at [] k index got all = absurd cc
before_at (j ∷ order) zero index got all =
    sym (cond-true (j == index) [] (j ∷ before_index index order) (eq-eqb j index (same_Some j index got)))
before_at (j ∷ order) (suc k) index got all =
    ap (λ js. j ∷ js) (before_at order k index got all.1)
    ∙ sym (cond-false (j == index) [] (j ∷ before_index index order) (ne_eqb j index all.0))

pub before_all : (order : List ℕ) (index : ℕ) → AllByRecursion (λ j. j ≢ index) order → order ≡ before_index index order
before_all [] index all = refl
before_all (j ∷ order) index all =
    ap (λ js. j ∷ js) (before_all order index all.1)
    ∙ sym (cond-false (j == index) [] (j ∷ before_index index order) (ne_eqb j index all.0))

-- ---- back along records

module _ (row : ℕ) (seq : ℕ) (xs : List (ℕ × Access)) (order : List ℕ) (k index : ℕ)
    (got : slice_get order k ≡ Some index) (none : NoneWrites row (passed seq xs (drop (k + 1) order))) where
  split : passed seq xs order ≡ passed seq xs (take k order) ++ passed_by seq (access_with xs index)
      ∷ passed seq xs (drop (k + 1) order)
  split =
      ap (passed seq xs) (sym (take-append-drop k order))
      ∙ map-append (λ (i : ℕ). passed_by seq (access_with xs i)) (take k order) (drop k order)
      ∙ ap (λ (ys : List ℕ). passed seq xs (take k order) ++ passed seq xs ys) (drop_here order k index got)

  pub last_found : (l : Left) → IsLeftAlone row (passed_by seq (access_with xs index)) l
      → IsLast row (passed seq xs order) l
  last_found l own = subst (λ (w : List Passed). IsLast row w l) (sym split)
      (last_here row (passed seq xs (take k order)) (passed seq xs (drop (k + 1) order))
      (passed_by seq (access_with xs index)) l own none)

  pub none_more : (IsWriter row (passed_by seq (access_with xs index)) → ⊥) → NoneWrites row
      (passed seq xs (drop k order))
  none_more own = subst (λ (ys : List ℕ). NoneWrites row (passed seq xs ys)) (sym (drop_here order k index got))
      (own, none)

-- ---- back along attempts

abbrev pub on_way : List OnPath → List Passed
on_way os = flat_map passed_in (map placed_on os)

on_way-append : (os ps : List OnPath) → on_way (os ++ ps) ≡ on_way os ++ on_way ps
on_way-append [] ps = refl
on_way-append (o ∷ os) ps =
    ap (λ (w : List Passed). passed_in (placed_on o) ++ w) (on_way-append os ps)
    ∙ sym (append_assoc (passed_in (placed_on o)) (on_way os) (on_way ps))

pub parts_on_way : (os : List OnPath) (k : ℕ) (o : OnPath) → slice_get os k ≡ Some o
    → on_way os ≡ on_way (take k os) ++ (passed_in (placed_on o) ++ on_way (drop (k + 1) os))
parts_on_way os k o got =
    ap on_way (sym (take-append-drop k os)) ∙ on_way-append (take k os) (drop k os)
    ∙ ap (λ (ps : List OnPath). on_way (take k os) ++ on_way ps) (drop_here os k o got)

module _ (row : ℕ) (os : List OnPath) (k : ℕ) (o : OnPath) (got : slice_get os k ≡ Some o)
    (none : NoneWrites row (on_way (drop (k + 1) os))) where
  pub last_on : (l : Left) → IsLast row (passed_in (placed_on o)) l → IsLast row (on_way os) l
  last_on l last = subst (λ (w : List Passed). IsLast row w l) (sym (parts_on_way os k o got))
      (last_inside row (on_way (take k os)) (passed_in (placed_on o)) (on_way (drop (k + 1) os)) l last none)

  pub none_on : NoneWrites row (passed_in (placed_on o)) → NoneWrites row (on_way (drop k os))
  none_on own = subst (λ (ps : List OnPath). NoneWrites row (on_way ps)) (sym (drop_here os k o got))
      (all-append (λ (x : Passed). ¬ IsWriter row x) (passed_in (placed_on o)) (on_way (drop (k + 1) os)) own none)

-- ---- opening balances

saving_at : (xs : List Customer) (k : ℕ) (c : Customer) → slice_get xs k ≡ Some c
    → get_or (opening_rows xs) (2 * k) (pos 0) ≡ c.saving
saving_at [] k c got = absurd cc
saving_at (x ∷ xs) zero c got = ap (λ (y : Customer). y.saving) (same_Some x c got)
saving_at (x ∷ xs) (suc k) c got =
    let twice : 2 * suc k ≡ suc (suc (2 * k)) = omega arith in
    ap (λ (n : ℕ). get_or (opening_rows (x ∷ xs)) n (pos 0)) twice ∙ saving_at xs k c got

checking_at : (xs : List Customer) (k : ℕ) (c : Customer) → slice_get xs k ≡ Some c
    → get_or (opening_rows xs) (suc (2 * k)) (pos 0) ≡ c.checking
checking_at [] k c got = absurd cc
checking_at (x ∷ xs) zero c got = ap (λ (y : Customer). y.checking) (same_Some x c got)
checking_at (x ∷ xs) (suc k) c got =
    let twice : 2 * suc k ≡ suc (suc (2 * k)) = omega arith in
    ap (λ (n : ℕ). get_or (opening_rows (x ∷ xs)) (suc n) (pos 0)) twice ∙ checking_at xs k c got

module _ (t : Trace) (row customer : ℕ) (c : ℕ × Customer) (is : customer ≡ row / 2)
    (got : slice_get (customers_at t) customer ≡ Some c) where
  there : slice_get t.customers customer ≡ Some c.1
  unfolding customers_at
  there = located_get customer_text HEADER_LEN t.customers customer c got

  pub opening_saving : row % 2 ≡ 0 → c.1.saving ≡ opening_of t row
  opening_saving even =
      let n : 2 * customer ≡ row = omega arith in
      sym (saving_at t.customers customer c.1 there) ∙ ap (λ (k : ℕ). get_or (opening_rows t.customers) k (pos 0)) n

  pub opening_checking : (row % 2 ≡ 0 → ⊥) → c.1.checking ≡ opening_of t row
  opening_checking odd =
      let n : suc (2 * customer) ≡ row = omega arith in
      sym (checking_at t.customers customer c.1 there) ∙ ap (λ (k : ℕ). get_or (opening_rows t.customers) k (pos 0)) n

pub no_opening : (t : Trace) (row : ℕ) → length t.customers ≤ row / 2 → pos 0 ≡ opening_of t row
no_opening t row past =
    sym (get_or_past (opening_rows t.customers) row (pos 0) (omega (arith, length-opening_rows t.customers)))
