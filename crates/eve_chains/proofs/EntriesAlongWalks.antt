-- What a row's walk meets at an entry is what the path and the records before it leave.
use Rattle.std.proofs.Common.{◌≡◌, inl, inr, ℕ, ◌≤◌, ◌==◌, ◌&&◌, Bool, true, false, cond, ◌||◌, List, [], ◌∷◌, ◌++◌}
use Rattle.std.proofs.Common.{map}
use Rattle.std.proofs.Common.{filter, flat_map, refl, sym, subst, ap, ◌∙◌, append_assoc, append-nil, arith}
use Rattle.std.specs.List.{AllByRecursion}
use Rattle.std.proofs.lemmas.Bool.{eq-eqb, false≢true}
use Rattle.std.proofs.lemmas.List.{map-append}
use Rattle.std.proofs.lemmas.List.Elements.{filter-append}
use Rattle.eve_smallbank.specs.declared.entry.Entry.{Entry}
use Rattle.eve_smallbank.specs.Chain.{Table, table_after}
use Rattle.eve_smallbank.proofs.Members.{In, here, there, all_in, in_prefix, in_cons}
use Rattle.eve_smallbank.proofs.Chains.{table_after-append}
use Rattle.eve_grammar.specs.Limits.{HasLimits}
use Rattle.eve_grammar.specs.Trace.{Access, Trace}
use Rattle.eve_grammar.proofs.Lists.{all-append, all-filter, filter_kept, filter_dropped}
use Rattle.eve_history.specs.declared.fate.Fate.{Fate}
use Rattle.eve_history.specs.declared.fate.Fate.TheVariants.{Committed, Discarded, Open}
use Rattle.eve_history.specs.Section.{Placed, attempts_by, settled}
use Rattle.eve_history.specs.SectionHistory.{history, IsRightSection, is_committed, is_discarded}
use Rattle.eve_chains.specs.Visible.{rows_after}
use Rattle.eve_chains.specs.Along.{entries_along}
use Rattle.eve_chains.proofs.Distinct.{in_map, in_right}
use Rattle.eve_chains.specs.Rows.{Fated, told_of, settles, Noted, noted_by, noted_in, all_noted}
use Rattle.eve_chains.specs.Rows.{bases_of, of_row, due_on_row, pair_after}
use Rattle.eve_chains.proofs.AttemptRecords.{own}
use Rattle.eve_chains.proofs.LeftByRecords.{left_by_all}
use Rattle.eve_chains.proofs.Paths.{all_placed, counts_in, counting, will_commit, will_fall, view_of, number_of}
use Rattle.eve_chains.proofs.Paths.{IsNoLater, AreCounting, rows_of, counting_told, committed_told, discarded_told}
use Rattle.eve_chains.proofs.RowWalks.{counts, entries, after_all, IsUpTo, AreRising, IsWithin, own_of, table_row}
use Rattle.eve_chains.proofs.RowWalks.{meets_what_counts}

-- ---- lists

filter_all : {A : Type 0} (test : A → Bool) (xs : List A) → AllByRecursion (λ x. test x ≡ true) xs → filter test xs ≡ xs
filter_all test [] all = refl
filter_all test (x ∷ xs) all = filter_kept test x xs all.0 ∙ ap (λ ys. x ∷ ys) (filter_all test xs all.1)

filter_none : {A : Type 0} (test : A → Bool) (xs : List A) → AllByRecursion (λ x. test x ≡ false) xs → filter test xs
    ≡ []
filter_none test [] all = refl
filter_none test (x ∷ xs) all = filter_dropped test x xs all.0 ∙ filter_none test xs all.1

pub in_filter : {A : Type 0} {y : A} (test : A → Bool) (xs : List A) → In y xs → test y ≡ true → In y (filter test xs)
in_filter test [] i e = elim i [ ]
in_filter {A} {y} test (x ∷ xs) here e = subst (In y) (sym (filter_kept test y xs e)) here
in_filter {A} {y} test (x ∷ xs) (there i) e = by (test x) (in_filter test xs i e)
  where
    by : (b : Bool) → In y (filter test xs) → In y (cond b (x ∷ filter test xs) (filter test xs))
    by true j = there j
    by false j = j

pub from_filter : {A : Type 0} {y : A} (test : A → Bool) (xs : List A) → In y (filter test xs) → In y xs
from_filter test [] i = elim i [ ]
from_filter {A} {y} test (x ∷ xs) i = by (test x) (λ j. from_filter test xs j) i
  where
    by : (b : Bool) → (In y (filter test xs) → In y xs) → In y (cond b (x ∷ filter test xs) (filter test xs))
        → In y (x ∷ xs)
    by true rest j = elim (in_cons (filter test xs) j) [
      | inl e ↦ subst (λ z. In z (x ∷ xs)) (sym e) here
      | inr k ↦ there (rest k)
    ]
    by false rest j = there (rest j)

-- ---- the entries that were noted

entries_noted : (at transferred view number : ℕ) (commits : Bool) (es : List Entry)
    → map (λ (n : Noted). n.entry)
    (map (λ (e : Entry). record {
      offset = at;
      transferred = transferred;
      view = view;
      number = number;
      commits = commits;
      entry = e;
    }) es) ≡ es
entries_noted at transferred view number commits [] = refl
entries_noted at transferred view number commits (e ∷ es) =
    ap (λ ys. e ∷ ys) (entries_noted at transferred view number commits es)

entries_are : (transferred view number : ℕ) (commits : Bool) (xs : List (ℕ × Access))
    → entries (flat_map (noted_by transferred view number commits) xs) ≡ entries_along xs
entries_are transferred view number commits [] = refl
entries_are transferred view number commits (x ∷ xs) =
    map-append (λ (n : Noted). n.entry) (noted_by transferred view number commits x)
    (flat_map (noted_by transferred view number commits) xs)
    ∙ (λ i. entries_noted x.0 transferred view number commits x.1.entries i
    ++ entries_are transferred view number commits xs i)

abbrev IsAlike : ℕ → ℕ → Bool → Noted → Type 0
IsAlike transferred view commits n = (n.transferred ≡ transferred) × (n.view ≡ view) × (n.commits ≡ commits)

alike_by : (at transferred view number : ℕ) (commits : Bool) (es : List Entry)
    → AllByRecursion (IsAlike transferred view commits)
    (map (λ (e : Entry). record {
      offset = at;
      transferred = transferred;
      view = view;
      number = number;
      commits = commits;
      entry = e;
    }) es)
alike_by at transferred view number commits [] = tt
alike_by at transferred view number commits (e ∷ es) =
    ((refl, refl, refl), alike_by at transferred view number commits es)

alike : (transferred view number : ℕ) (commits : Bool) (xs : List (ℕ × Access))
    → AllByRecursion (IsAlike transferred view commits) (flat_map (noted_by transferred view number commits) xs)
alike transferred view number commits [] = tt
alike transferred view number commits (x ∷ xs) =
    all-append (IsAlike transferred view commits) (noted_by transferred view number commits x)
    (flat_map (noted_by transferred view number commits) xs) (alike_by x.0 transferred view number commits x.1.entries)
    (alike transferred view number commits xs)

-- those of an attempt
alike_in : (y : Fated) → AllByRecursion (IsAlike y.transferred (view_of y) (is_committed y.fate)) (noted_in y)
alike_in y = alike y.transferred (view_of y) (number_of y) (is_committed y.fate) (own y.placed)

counts_alike : (k w transferred view : ℕ) (commits b : Bool) (ns : List Noted)
    → ((transferred == k) && (commits || (view == w))) ≡ b
    → AllByRecursion (IsAlike transferred view commits) ns → AllByRecursion (λ n. counts k w n ≡ b) ns
counts_alike k w transferred view commits b [] e all = tt
counts_alike k w transferred view commits b (n ∷ ns) e all = (
  (λ i. (all.0.0 i == k) && (all.0.2 i || (all.0.1 i == w))) ∙ e,
  counts_alike k w transferred view commits b ns e all.1,
)

-- of attempts that settle, those that count in a view
counting_noted : (k w : ℕ) (ys : List Fated) → AllByRecursion (λ y. settles y ≡ true) (counting k w ys)
    → filter (counts k w) (all_noted ys) ≡ flat_map noted_in (counting k w ys)
counting_noted k w [] all = refl
counting_noted k w (y ∷ ys) all =
    by (settles y) (counts_in k w y) refl refl (λ h. counting_noted k w ys h) all
  where
    own_noted : List Noted
    own_noted = noted_in y

    by : (s b : Bool) → settles y ≡ s → counts_in k w y ≡ b
        → (AllByRecursion (λ z. settles z ≡ true) (counting k w ys) → filter (counts k w) (all_noted ys)
        ≡ flat_map noted_in (counting k w ys))
        → AllByRecursion (λ z. settles z ≡ true) (cond b (y ∷ counting k w ys) (counting k w ys))
        → filter (counts k w) (flat_map noted_in (cond s (y ∷ filter settles ys) (filter settles ys)))
        ≡ flat_map noted_in (cond b (y ∷ counting k w ys) (counting k w ys))
    by true true s b more h =
        filter-append (counts k w) own_noted (all_noted ys)
        ∙ (λ i. filter_all (counts k w) own_noted
        (counts_alike k w y.transferred (view_of y) (is_committed y.fate) true own_noted b (alike_in y)) i
        ++ more h.1 i)
    by true false s b more h =
        filter-append (counts k w) own_noted (all_noted ys)
        ∙ (λ i. filter_none (counts k w) own_noted
        (counts_alike k w y.transferred (view_of y) (is_committed y.fate) false own_noted b (alike_in y)) i ++ more h i)
    by false true s b more h = absurd (false≢true (sym s ∙ h.0))
    by false false s b more h = more h

entries_of_all : (ys : List Fated) → entries (flat_map noted_in ys) ≡ flat_map (λ p. entries_along (own p))
    (all_placed ys)
entries_of_all [] = refl
entries_of_all (y ∷ ys) =
    map-append (λ (n : Noted). n.entry) (noted_in y) (flat_map noted_in ys)
    ∙ (λ i. entries_are y.transferred (view_of y) (number_of y) (is_committed y.fate) (own y.placed) i
    ++ entries_of_all ys i)

-- the row's own, of those that pass
entries_filter : (test : Noted → Bool) (row : ℕ) (ns : List Noted) → entries (filter test (of_row row ns))
    ≡ own_of row (entries (filter test ns))
entries_filter test row [] = refl
entries_filter test row (n ∷ ns) = by (n.entry.row == row) (test n) refl refl (entries_filter test row ns)
  where
    by : (r k : Bool) → (n.entry.row == row) ≡ r → test n ≡ k → entries (filter test (of_row row ns))
        ≡ own_of row (entries (filter test ns))
        → entries (filter test (cond r (n ∷ of_row row ns) (of_row row ns)))
        ≡ own_of row (entries (cond k (n ∷ filter test ns) (filter test ns)))
    by true true r k rest =
        ap entries (filter_kept test n (of_row row ns) k) ∙ ap (λ es. n.entry ∷ es) rest
        ∙ sym (filter_kept (λ (e : Entry). e.row == row) n.entry (entries (filter test ns)) r)
    by true false r k rest = ap entries (filter_dropped test n (of_row row ns) k) ∙ rest
    by false true r k rest = rest
        ∙ sym (filter_dropped (λ (e : Entry). e.row == row) n.entry (entries (filter test ns)) r)
    by false false r k rest = rest

-- ---- the numbers rise

later_ones : (t : Trace) (bases : ℕ → Table) (d : Fated) (done ys : List Fated) → AreCounting t bases done ys
    → In d done → AllByRecursion (λ y. IsNoLater y.transferred (view_of y) d) ys
later_ones t bases d done [] known i = tt
later_ones t bases d done (y ∷ ys) known i = (
  all_in (IsNoLater y.transferred (view_of y)) known.1 i,
  later_ones t bases d (done ++ y ∷ []) ys known.3 (in_prefix (y ∷ []) i),
)

abbrev AreInOrder : List Fated → Type 0
AreInOrder [] = Unit {0}
AreInOrder (y ∷ ys) = AllByRecursion (λ z. IsNoLater z.transferred (view_of z) y) ys × AreInOrder ys

in_order : (t : Trace) (bases : ℕ → Table) (done ys : List Fated) → AreCounting t bases done ys → AreInOrder ys
in_order t bases done [] known = tt
in_order t bases done (y ∷ ys) known = (
  later_ones t bases y (done ++ y ∷ []) ys known.3 (in_right done (y ∷ []) here),
  in_order t bases (done ++ y ∷ []) ys known.3,
)

rising_append : (xs ys : List Noted) → AreRising xs → AreRising ys
    → AllByRecursion (λ n. AllByRecursion (IsUpTo n) ys) xs → AreRising (xs ++ ys)
rising_append [] ys first second all = second
rising_append (x ∷ xs) ys first second all =
    (all-append (IsUpTo x) xs ys first.0 all.0, rising_append xs ys first.1 second all.1)

up_alike : (transferred view : ℕ) (commits : Bool) (n m : Noted) → IsAlike transferred view commits n
    → IsAlike transferred view commits m
    → IsUpTo n m
up_alike transferred view commits n m one other = (omega (arith, one.0, other.0), omega (arith, one.1, other.1))

rising_alike : (transferred view : ℕ) (commits : Bool) (ns : List Noted)
    → AllByRecursion (IsAlike transferred view commits) ns
    → AreRising ns
rising_alike transferred view commits [] all = tt
rising_alike transferred view commits (n ∷ ns) all = (same ns all.1, rising_alike transferred view commits ns all.1)
  where
    same : (ms : List Noted) → AllByRecursion (IsAlike transferred view commits) ms → AllByRecursion (IsUpTo n) ms
    same [] h = tt
    same (m ∷ ms) h = (up_alike transferred view commits n m all.0 h.0, same ms h.1)

rising_filter : (test : Noted → Bool) (ns : List Noted) → AreRising ns → AreRising (filter test ns)
rising_filter test [] rising = tt
rising_filter test (n ∷ ns) rising = by (test n) (rising_filter test ns rising.1)
  where
    by : (b : Bool) → AreRising (filter test ns) → AreRising (cond b (n ∷ filter test ns) (filter test ns))
    by true rest = (all-filter (IsUpTo n) test ns rising.0, rest)
    by false rest = rest

-- bounds of what attempts note
noted_from : (y : Fated) (ys : List Fated) → AllByRecursion (λ z. IsNoLater z.transferred (view_of z) y) ys
    → AllByRecursion (λ n. (y.transferred ≤ n.transferred) × (view_of y ≤ n.view)) (flat_map noted_in ys)
noted_from y [] all = tt
noted_from y (z ∷ zs) all =
    all-append (λ n. (y.transferred ≤ n.transferred) × (view_of y ≤ n.view)) (noted_in z) (flat_map noted_in zs)
    (up (noted_in z) (alike_in z)) (noted_from y zs all.1)
  where
    up : (ns : List Noted) → AllByRecursion (IsAlike z.transferred (view_of z) (is_committed z.fate)) ns
        → AllByRecursion (λ n. (y.transferred ≤ n.transferred) × (view_of y ≤ n.view)) ns
    up [] h = tt
    up (n ∷ ns) h = ((omega (arith, h.0.0, all.0.0), omega (arith, h.0.1, all.0.1)), up ns h.1)

noted_up : (transferred view : ℕ) (ys : List Fated) → AllByRecursion (IsNoLater transferred view) ys
    → AllByRecursion (IsWithin transferred view) (flat_map noted_in ys)
noted_up transferred view [] all = tt
noted_up transferred view (y ∷ ys) all =
    all-append (IsWithin transferred view) (noted_in y) (flat_map noted_in ys)
    (up (noted_in y) (alike_in y)) (noted_up transferred view ys all.1)
  where
    up : (ns : List Noted) → AllByRecursion (IsAlike y.transferred (view_of y) (is_committed y.fate)) ns
        → AllByRecursion (IsWithin transferred view) ns
    up [] h = tt
    up (n ∷ ns) h = ((omega (arith, h.0.0, all.0.0), omega (arith, h.0.1, all.0.1)), up ns h.1)

-- the entries of these numbers are up to each of those
up_to_all : (transferred view : ℕ) (n : Noted) (ms : List Noted) → IsWithin transferred view n
    → AllByRecursion (λ m. (transferred ≤ m.transferred) × (view ≤ m.view)) ms → AllByRecursion (IsUpTo n) ms
up_to_all transferred view n [] up all = tt
up_to_all transferred view n (m ∷ ms) up all = (
  (omega (arith, up.0, all.0.0), omega (arith, up.1, all.0.1)),
  up_to_all transferred view n ms up all.1,
)

all_up_to : (transferred view : ℕ) (ns ms : List Noted) → AllByRecursion (IsWithin transferred view) ns
    → AllByRecursion (λ m. (transferred ≤ m.transferred) × (view ≤ m.view)) ms
    → AllByRecursion (λ n. AllByRecursion (IsUpTo n) ms) ns
all_up_to transferred view [] ms up all = tt
all_up_to transferred view (n ∷ ns) ms up all =
    (up_to_all transferred view n ms up.0 all, all_up_to transferred view ns ms up.1 all)

within_alike : (transferred view : ℕ) (commits : Bool) (ns : List Noted)
    → AllByRecursion (IsAlike transferred view commits) ns
    → AllByRecursion (IsWithin transferred view) ns
within_alike transferred view commits [] all = tt
within_alike transferred view commits (n ∷ ns) all =
    ((omega (arith, all.0.0), omega (arith, all.0.1)), within_alike transferred view commits ns all.1)

from_alike : (transferred view : ℕ) (commits : Bool) (ns : List Noted)
    → AllByRecursion (IsAlike transferred view commits) ns
    → AllByRecursion (λ m. (transferred ≤ m.transferred) × (view ≤ m.view)) ns
from_alike transferred view commits [] all = tt
from_alike transferred view commits (n ∷ ns) all =
    ((omega (arith, all.0.0), omega (arith, all.0.1)), from_alike transferred view commits ns all.1)

noted_rising : (ys : List Fated) → AreInOrder ys → AreRising (flat_map noted_in ys)
noted_rising [] order = tt
noted_rising (y ∷ ys) order =
    rising_append (noted_in y) (flat_map noted_in ys)
    (rising_alike y.transferred (view_of y) (is_committed y.fate) (noted_in y) (alike_in y)) (noted_rising ys order.1)
    (all_up_to y.transferred (view_of y) (noted_in y) (flat_map noted_in ys)
    (within_alike y.transferred (view_of y) (is_committed y.fate) (noted_in y) (alike_in y)) (noted_from y ys order.0))

order_filter : (test : Fated → Bool) (ys : List Fated) → AreInOrder ys → AreInOrder (filter test ys)
order_filter test [] order = tt
order_filter test (y ∷ ys) order = by (test y) (order_filter test ys order.1)
  where
    by : (b : Bool) → AreInOrder (filter test ys) → AreInOrder (cond b (y ∷ filter test ys) (filter test ys))
    by true rest = (all-filter (λ z. IsNoLater z.transferred (view_of z) y) test ys order.0, rest)
    by false rest = rest

order_prefix : (xs ys : List Fated) → AreInOrder (xs ++ ys) → AreInOrder xs
order_prefix [] ys order = tt
order_prefix (x ∷ xs) ys order = (prefix xs order.0, order_prefix xs ys order.1)
  where
    prefix : (zs : List Fated) → AllByRecursion (λ z. IsNoLater z.transferred (view_of z) x) (zs ++ ys)
        → AllByRecursion (λ z. IsNoLater z.transferred (view_of z) x) zs
    prefix [] h = tt
    prefix (z ∷ zs) h = (h.0, prefix zs h.1)

-- ---- an attempt among those told

-- what is known of the one after these
pub counting_at : (t : Trace) (bases : ℕ → Table) (done before : List Fated) (x : Fated) (after : List Fated)
    → AreCounting t bases done (before ++ x ∷ after) → AreCounting t bases (done ++ before) (x ∷ after)
counting_at t bases done [] x after known =
    subst (λ ys. AreCounting t bases ys (x ∷ after)) (sym (append-nil done)) known
counting_at t bases done (y ∷ before) x after known = subst (λ ys. AreCounting t bases ys (x ∷ after))
    (append_assoc done (y ∷ []) before) (counting_at t bases (done ++ y ∷ []) before x after known.3)

module _ (t : Trace) (e : ℕ) (limits : HasLimits t) (right : IsRightSection t e) where
  -- an attempt that settles is among the settled ones
  pub settled_there : (y : Fated) → In y (told_of t e) → settles y ≡ true → In y.placed (settled (history t e))
  settled_there y i done = by y.fate refl
    where
      by : (f : Fate) → y.fate ≡ f → In y.placed (settled (history t e))
      by Committed is =
          in_prefix (history t e).discarded
          (subst (In y.placed) (committed_told t e right)
          (in_map (λ (z : Fated). z.placed) (filter will_commit (told_of t e))
          (in_filter will_commit (told_of t e) i (ap is_committed is))))
      by Discarded is =
          in_right (attempts_by (history t e).ways_reached) (history t e).discarded
          (subst (In y.placed) (discarded_told t e right)
          (in_map (λ (z : Fated). z.placed) (filter will_fall (told_of t e))
          (in_filter will_fall (told_of t e) i (ap is_discarded is))))
      by Open is = absurd (false≢true (sym (ap (λ (f : Fate). is_committed f || is_discarded f) is) ∙ done))

  module _ (before : List Fated) (x : Fated) (after : List Fated) (is : told_of t e ≡ before ++ x ∷ after)
      (done : settles x ≡ true) where
    known : AreCounting t (rows_of t e) before (x ∷ after)
    known = counting_at t (rows_of t e) [] before x after
        (subst (AreCounting t (rows_of t e) []) is (counting_told t e right))

    abbrev counted : List Fated
    counted = counting x.transferred (view_of x) before

    settle : AllByRecursion (λ y. settles y ≡ true) counted
    settle = known.2 done

    -- the path's table, by what was noted before
    path_table : rows_after t x.placed.path
        ≡ table_after (rows_of t e x.transferred)
        (entries (filter (counts x.transferred (view_of x)) (all_noted before)))
    path_table =
        known.0
        ∙ left_by_all t e (rows_of t e x.transferred) (all_placed counted) limits right there_all
        ∙ ap (table_after (rows_of t e x.transferred)) (sym (entries_of_all counted)
        ∙ ap entries (sym (counting_noted x.transferred (view_of x) before settle)))
      where
        there_of : {p : Placed} (ys : List Fated) → ((y : Fated) → In y ys → In y.placed (settled (history t e)))
            → In p (all_placed ys) → In p (settled (history t e))
        there_of [] h i = elim i [ ]
        there_of (y ∷ ys) h here = h y here
        there_of (y ∷ ys) h (there i) = there_of ys (λ z j. h z (there j)) i

        there_all : (p : Placed) → In p (all_placed counted) → In p (settled (history t e))
        there_all p i =
            there_of counted (λ y j. settled_there y
            (subst (In y) (sym is) (in_prefix (x ∷ after) (from_filter (counts_in x.transferred (view_of x)) before j)))
            (all_in (λ z. settles z ≡ true) settle j)) i

    -- what the row's walk meets after the attempts before it and some of its own records
    pub meets_visible : (xs : List (ℕ × Access)) (row : ℕ) (n : Noted) → n.transferred ≡ x.transferred → n.view
        ≡ view_of x
        → due_on_row (bases_of t e row) (pair_after (bases_of t e row)
        (of_row row (all_noted before ++
        flat_map (noted_by x.transferred (view_of x) (number_of x) (is_committed x.fate)) xs))) n
        ≡ table_after (rows_after t x.placed.path) (entries_along xs) row
    meets_visible xs row n as_many same =
        meets_what_counts (bases_of t e row) (of_row row ns) n (rising_filter (λ m. m.entry.row == row) ns rising)
        (all-filter (λ m. IsUpTo m n) (λ m. m.entry.row == row) ns up)
        ∙ (λ i. after_all (bases_of t e row (as_many i))
        (entries (filter (counts (as_many i) (same i)) (of_row row ns))))
        ∙ ap (after_all (bases_of t e row k)) (entries_filter (counts k v) row ns)
        ∙ sym (table_row (rows_of t e k) row (entries (filter (counts k v) ns)))
        ∙ ap (λ (es : List Entry). table_after (rows_of t e k) es row) split
        ∙ ap (λ (table : Table). table row)
        (table_after-append (rows_of t e k) (entries (filter (counts k v) (all_noted before))) (entries_along xs))
        ∙ ap (λ (table : Table). table_after table (entries_along xs) row) (sym path_table)
      where
        k : ℕ
        k = x.transferred

        v : ℕ
        v = view_of x

        its : ℕ
        its = number_of x

        c : Bool
        c = is_committed x.fate

        mine : List Noted
        mine = flat_map (noted_by k v its c) xs

        mine_alike : AllByRecursion (IsAlike k v c) mine
        mine_alike = alike k v its c xs

        ns : List Noted
        ns = all_noted before ++ mine

        own_counts : ((k == k) && (c || (v == v))) ≡ true
        own_counts = ap (λ (b : Bool). b && (c || (v == v))) (eq-eqb k k refl) ∙ by c
          where
            by : (b : Bool) → (b || (v == v)) ≡ true
            by true = refl
            by false = eq-eqb v v refl

        split : entries (filter (counts k v) ns) ≡ entries (filter (counts k v) (all_noted before)) ++ entries_along xs
        split =
            ap entries (filter-append (counts k v) (all_noted before) mine)
            ∙ map-append (λ (m : Noted). m.entry) (filter (counts k v) (all_noted before)) (filter (counts k v) mine)
            ∙ ap (λ (es : List Entry). entries (filter (counts k v) (all_noted before)) ++ es)
            (ap entries (filter_all (counts k v) mine (counts_alike k v k v c true mine own_counts mine_alike))
            ∙ entries_are k v its c xs)

        before_up : AllByRecursion (IsWithin k v) (all_noted before)
        before_up = noted_up k v (filter settles before) (all-filter (IsNoLater k v) settles before known.1)

        up_to_n : (ms : List Noted) → AllByRecursion (IsWithin k v) ms → AllByRecursion (λ m. IsUpTo m n) ms
        up_to_n [] h = tt
        up_to_n (m ∷ ms) h = ((omega (arith, h.0.0, as_many), omega (arith, h.0.1, same)), up_to_n ms h.1)

        up : AllByRecursion (λ m. IsUpTo m n) ns
        up = up_to_n ns (all-append (IsWithin k v) (all_noted before) mine before_up
            (within_alike k v c mine mine_alike))

        rising : AreRising ns
        rising =
            rising_append (all_noted before) mine
            (noted_rising (filter settles before)
            (order_filter settles before
            (order_prefix before (x ∷ after)
            (subst AreInOrder is (in_order t (rows_of t e) [] (told_of t e) (counting_told t e right))))))
            (rising_alike k v c mine mine_alike)
            (all_up_to k v (all_noted before) mine before_up (from_alike k v c mine mine_alike))
