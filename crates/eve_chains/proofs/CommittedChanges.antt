-- What the walks of all rows give, put together by number, is what a replica's committed batches change.
use Rattle.std.proofs.Common.{◌≡◌, ℕ, ℤ, zero, suc, ◌+◌, ◌-◌, ◌*◌, ◌<◌, ◌≤◌, ◌==◌, Bool, true, false, cond, ◌&&◌, List}
use Rattle.std.proofs.Common.{[], ◌∷◌, ◌++◌, map, length, filter, append_assoc, append-nil, refl, sym, subst, ap}
use Rattle.std.proofs.Common.{◌∙◌, arith, All, inl, inr, length-append, Option, Some, None}
use Rattle.std.specs.List.{AllByRecursion, AllZip, flat_map}
use Rattle.std.proofs.lemmas.List.{take_all, length-map}
use Rattle.std.proofs.lemmas.List.Elements.{filter-append, All-from_recursion, All-head, All-tail}
use Rattle.std.proofs.lemmas.List.Sums.{fold-append}
use Rattle.eve_smallbank.specs.declared.entry.Entry.{Entry}
use Rattle.eve_smallbank.specs.Access.{is_write}
use Rattle.eve_grammar.specs.Trace.{Access, Trace, head_of}
use Rattle.eve_grammar.specs.Limits.{row_count}
use Rattle.eve_grammar.proofs.Lists.{same_first, same_others, no_item}
use Rattle.eve_history.specs.declared.fate.Fate.{Fate}
use Rattle.eve_history.specs.declared.fate.Fate.TheVariants.{Committed, Discarded, Open}
use Rattle.eve_history.specs.Section.{Placed, HowReached, ByAttempt, ByTransfer, Skipped, attempts_by}
use Rattle.eve_history.specs.SectionHistory.{SectionHistory, section_history, ordered, history, IsRightSection}
use Rattle.eve_chains.specs.Along.{entries_along}
use Rattle.eve_chains.specs.Rows.{Fated, Noted, told_of, noted_by, all_noted, of_row}
use Rattle.eve_chains.specs.inner.Stretches.{IsWithin, Reaches}
use Rattle.eve_chains.specs.declared.changed.Changed.{Changed}
use Rattle.eve_chains.specs.declared.stretch.Stretch.{Stretch}
use Rattle.eve_chains.specs.declared.numbered.Numbered.{Numbered}
use Rattle.eve_chains.specs.declared.rows.Walked.{Walked}
use Rattle.eve_chains.specs.Changes.{last_written, changes_below, with_change, change_by, changes_along}
use Rattle.eve_chains.specs.Changes.{changes_of_rows, of_number, by_number, changes_at, changes_in_ranges}
use Rattle.eve_chains.specs.Changes.{ranges_by_number}
use Rattle.eve_chains.specs.Numbered.{HasNumber, IsRowBelow, HasNumbersTo}
use Rattle.eve_chains.specs.inner.Walked.{IsWalked, IsOfRange, AreOfRanges, reached}
use Rattle.eve_chains.proofs.ByNumber.{of_number-append}
use Rattle.eve_chains.proofs.LinkedPaths.{AreLinked, linked_history, last_committed}
use Rattle.eve_chains.proofs.Paths.{all_placed, will_commit, committed_told}
use Rattle.eve_chains.proofs.ChangedRows.{IsEarlier, change_in, row_changes, rows_changes, rows_more, rows_earlier}
use Rattle.eve_chains.proofs.ChangedRows.{along_batch, numbers_are, IsOneOf, ones_of_rows}

-- ---- what is not committed changes nothing

committed_only : (cs : List Changed) (ns : List Noted) → changes_along cs ns
    ≡ changes_along cs (filter (λ n. n.commits) ns)
committed_only cs [] = refl
committed_only cs (n ∷ ns) = by n.commits refl (λ (ds : List Changed). committed_only ds ns)
  where
    kept : List Noted
    kept = filter (λ n. n.commits) ns

    with_own : List Changed
    with_own = with_change cs (record { number = n.number; row = n.entry.row; value = n.entry.after })

    by : (b : Bool) → n.commits ≡ b
        → ((ds : List Changed) → changes_along ds ns ≡ changes_along ds kept)
        → changes_along (cond (b && is_write n.entry.kind) with_own cs) ns
        ≡ changes_along cs (cond b (n ∷ kept) kept)
    by true is next = next (cond (is_write n.entry.kind) with_own cs)
        ∙ ap (λ (b : Bool). changes_along (cond (b && is_write n.entry.kind) with_own cs) kept) (sym is)
    by false is next = next cs

module _ (row : ℕ) where
  -- what is noted of the row in an attempt that is committed
  abbrev chunk : Fated → List Noted
  chunk y = of_row row (flat_map (noted_by y.transferred y.placed.attempt.view y.placed.attempt.seq true)
      (ordered y.placed.offset y.placed.attempt))

  kept_of : (offset transferred view number : ℕ) (b : Bool) (es : List Entry)
      → filter (λ (n : Noted). n.commits) (of_row row
      (map (λ e. record {
        offset = offset;
        transferred = transferred;
        view = view;
        number = number;
        commits = b;
        entry =
            e;
      }) es))
      ≡ cond b (of_row row
      (map (λ e. record {
        offset = offset;
        transferred = transferred;
        view = view;
        number = number;
        commits = b;
        entry =
            e;
      })
      es)) []
  kept_of offset transferred view number true [] = refl
  kept_of offset transferred view number false [] = refl
  kept_of offset transferred view number true (e ∷ es) = by (e.row == row)
      (kept_of offset transferred view number true es)
    where
      here : Noted
      here = record {
        offset = offset;
        transferred = transferred;
        view = view;
        number = number;
        commits = true;
        entry =
            e;
      }

      rest : List Noted
      rest = of_row row (map (λ e. record
          { offset = offset; transferred = transferred; view = view; number = number; commits = true; entry = e }) es)

      by : (b : Bool) → filter (λ (n : Noted). n.commits) rest ≡ rest
          → filter (λ (n : Noted). n.commits) (cond b (here ∷ rest) rest) ≡ cond b (here ∷ rest) rest
      by true next = ap (λ (ns : List Noted). here ∷ ns) next
      by false next = next
  kept_of offset transferred view number false (e ∷ es) = by (e.row == row)
      (kept_of offset transferred view number false es)
    where
      here : Noted
      here = record {
        offset = offset;
        transferred = transferred;
        view = view;
        number = number;
        commits = false;
        entry =
            e;
      }

      rest : List Noted
      rest = of_row row
          (map (λ e. record
          { offset = offset; transferred = transferred; view = view; number = number; commits = false; entry = e }) es)

      by : (b : Bool) → filter (λ (n : Noted). n.commits) rest ≡ []
          → filter (λ (n : Noted). n.commits) (cond b (here ∷ rest) rest) ≡ []
      by true next = next
      by false next = next

  rows_apart : (xs ys : List Noted) → filter (λ (n : Noted). n.commits) (of_row row (xs ++ ys))
      ≡ filter (λ (n : Noted). n.commits) (of_row row xs) ++ filter (λ (n : Noted). n.commits) (of_row row ys)
  rows_apart xs ys = ap (filter (λ (n : Noted). n.commits)) (filter-append (λ (n : Noted). n.entry.row == row) xs ys)
      ∙ filter-append (λ (n : Noted). n.commits) (of_row row xs) (of_row row ys)

  kept_all : (transferred view number : ℕ) (xs : List (ℕ × Access))
      → filter (λ (n : Noted). n.commits) (of_row row (flat_map (noted_by transferred view number true) xs))
      ≡ of_row row (flat_map (noted_by transferred view number true) xs)
  kept_all transferred view number [] = refl
  kept_all transferred view number (x ∷ xs) =
      rows_apart (noted_by transferred view number true x) (flat_map (noted_by transferred view number true) xs)
      ∙ (λ i. kept_of x.0 transferred view number true x.1.entries i ++ kept_all transferred view number xs i)
      ∙ sym (filter-append (λ (n : Noted). n.entry.row == row) (noted_by transferred view number true x)
      (flat_map (noted_by transferred view number true) xs))

  kept_none : (transferred view number : ℕ) (xs : List (ℕ × Access))
      → filter (λ (n : Noted). n.commits) (of_row row (flat_map (noted_by transferred view number false) xs)) ≡ []
  kept_none transferred view number [] = refl
  kept_none transferred view number (x ∷ xs) =
      rows_apart (noted_by transferred view number false x) (flat_map (noted_by transferred view number false) xs)
      ∙ (λ i. kept_of x.0 transferred view number false x.1.entries i ++ kept_none transferred view number xs i)

  committed_notes : (ys : List Fated) → filter (λ (n : Noted). n.commits) (of_row row (all_noted ys))
      ≡ flat_map chunk (filter will_commit ys)
  committed_notes [] = refl
  committed_notes (y ∷ ys) = by y.placed y.transferred y.fate (committed_notes ys)
    where
      by : (p : Placed) (transferred : ℕ) (fate : Fate)
          → filter (λ (n : Noted). n.commits) (of_row row (all_noted ys)) ≡ flat_map chunk (filter will_commit ys)
          → filter (λ (n : Noted). n.commits)
          (of_row row (all_noted (record { placed = p; transferred = transferred; fate = fate } ∷ ys)))
          ≡ flat_map chunk (filter will_commit (record { placed = p; transferred = transferred; fate = fate } ∷ ys))
      by p transferred Committed next =
          rows_apart (flat_map (noted_by transferred p.attempt.view p.attempt.seq true) (ordered p.offset p.attempt))
          (all_noted ys)
          ∙ (λ i. kept_all transferred p.attempt.view p.attempt.seq (ordered p.offset p.attempt) i ++ next i)
      by p transferred Discarded next =
          rows_apart (flat_map (noted_by transferred p.attempt.view p.attempt.seq false) (ordered p.offset p.attempt))
          (all_noted ys)
          ∙ (λ i. kept_none transferred p.attempt.view p.attempt.seq (ordered p.offset p.attempt) i ++ next i)
      by p transferred Open next = next

-- ---- a row, number after number

-- the entries of the attempt by which a number was reached, in its certificate's order
abbrev pub entries_by : HowReached → List Entry
entries_by (ByAttempt p) = entries_along (ordered p.offset p.attempt)
entries_by (ByTransfer at x) = []
entries_by Skipped = []

abbrev pub entries_of_all : List HowReached → List (List Entry)
entries_of_all ls = map entries_by ls

later : (m row : ℕ) (cs : List Changed) → AllByRecursion (IsEarlier m row) cs
    → AllByRecursion (IsEarlier (suc m) row) cs
later m row [] all = tt
later m row (c ∷ cs) all =
    (elim all.0 [ inl less ↦ inl less | inr less ↦ inr (omega arith) ], later m row cs all.1)

later_in : (m row : ℕ) (o : Option ℤ) → AllByRecursion (IsEarlier (suc m) row) (change_in m row o)
later_in m row None = tt
later_in m row (Some z) = (inr (omega arith), tt)

all_append : {A : Type 0} (P : A → Type 0) (xs ys : List A) → AllByRecursion P xs → AllByRecursion P ys
    → AllByRecursion P (xs ++ ys)
all_append P [] ys xs-all ys-all = ys-all
all_append P (x ∷ xs) ys xs-all ys-all = (xs-all.0, all_append P xs ys xs-all.1 ys-all)

one_longer : (before : List HowReached) (l : HowReached) (m : ℕ) → length before ≡ m → length (before ++ l ∷ []) ≡ suc m
one_longer before l m many = length-append before (l ∷ []) ∙ omega (arith, many)

-- a number that no attempt reached changes nothing here
along_batches : (t : Trace) (row m : ℕ) (before ls : List HowReached) (ys : List Fated) (cs : List Changed)
    → AreLinked t before ls → length before ≡ m → all_placed ys ≡ attempts_by ls
    → AllByRecursion (IsEarlier (suc m) row) cs
    → changes_along cs (flat_map (chunk row) ys) ≡ cs ++ row_changes row (suc m) (entries_of_all ls)
along_batches t row m before [] [] cs linked many are all = sym (append-nil cs)
along_batches t row m before [] (y ∷ ys) cs linked many are all = absurd (no_item [] y.placed (all_placed ys) (sym are))
along_batches t row m before (ByAttempt p ∷ ls) [] cs linked many are all =
    absurd (no_item [] p (attempts_by ls) are)
along_batches t row m before (ByAttempt p ∷ ls) (y ∷ ys) cs linked many are all =
    let q = y.placed in
    let first : q ≡ p = same_first q p (all_placed ys) (attempts_by ls) are in
    let number : q.attempt.seq ≡ suc m = ap (λ (x : Placed). x.attempt.seq) first ∙ linked.0.number ∙ ap suc many in
    let own = change_in (suc m) row (last_written row (entries_along (ordered p.offset p.attempt))) in
    fold-append change_by cs (chunk row y) (flat_map (chunk row) ys)
    ∙ ap (λ (ds : List Changed). changes_along ds (flat_map (chunk row) ys))
    (ap (λ (k : ℕ). changes_along cs
    (of_row row (flat_map (noted_by y.transferred q.attempt.view k true) (ordered q.offset q.attempt)))) number
    ∙ along_batch (suc m) row cs all y.transferred q.attempt.view (ordered q.offset q.attempt)
    ∙ ap (λ (x : Placed). cs ++ change_in (suc m) row (last_written row (entries_along (ordered x.offset x.attempt))))
    first)
    ∙ along_batches t row (suc m) (before ++ ByAttempt p ∷ []) ls ys (cs ++ own) linked.1
    (one_longer before (ByAttempt p) m many) (same_others q p (all_placed ys) (attempts_by ls) are)
    (all_append (IsEarlier (suc (suc m)) row) cs own (later (suc m) row cs all)
    (later_in (suc m) row (last_written row (entries_along (ordered p.offset p.attempt)))))
    ∙ append_assoc cs own (row_changes row (suc (suc m)) (entries_of_all ls))
along_batches t row m before (ByTransfer at x ∷ ls) ys cs linked many are all =
    along_batches t row (suc m) (before ++ ByTransfer at x ∷ []) ls ys cs linked.1
    (one_longer before (ByTransfer at x) m many) are (later (suc m) row cs all)
along_batches t row m before (Skipped ∷ ls) ys cs linked many are all =
    along_batches t row (suc m) (before ++ Skipped ∷ []) ls ys cs linked.1 (one_longer before Skipped m many) are
    (later (suc m) row cs all)

-- ---- all rows

module _ (t : Trace) (e : ℕ) (right : IsRightSection t e) where
  -- the entries of the attempt by which each number was reached
  abbrev pub batch_entries : List (List Entry)
  batch_entries = entries_of_all (history t e).ways_reached

  along_row : (from count : ℕ)
      → changes_along (rows_changes from count batch_entries) (of_row (from + count) (all_noted (told_of t e)))
      ≡ rows_changes from (suc count) batch_entries
  along_row from count =
      let row = from + count in
      let cs = rows_changes from count batch_entries in
      committed_only cs (of_row row (all_noted (told_of t e)))
      ∙ ap (changes_along cs) (committed_notes row (told_of t e))
      ∙ along_batches t row 0 [] (history t e).ways_reached (filter will_commit (told_of t e)) cs
      (linked_history t e right) refl (committed_told t e right) (rows_earlier 1 from count batch_entries)

  pub along_rows : (from count : ℕ)
      → changes_of_rows (all_noted (told_of t e)) from count [] ≡ rows_changes from count batch_entries
  along_rows from zero = refl
  along_rows from (suc count) =
      ap (λ (cs : List Changed). changes_along cs (of_row (from + count) (all_noted (told_of t e))))
      (along_rows from count) ∙ along_row from count

  -- ---- range after range

  reach_le : (rows from to : ℕ) (xs : List Stretch) → Reaches from to xs → All (IsWithin rows) xs → from ≤ to
  reach_le rows from to [] reaches within = omega (arith, reaches)
  reach_le rows from to (x ∷ xs) reaches within =
      omega (
        arith,
        reaches.0,
        (All-head (IsWithin rows) x xs within).rising,
        reach_le rows x.to to xs reaches.1 (All-tail (IsWithin rows) x xs within),
      )

  -- what ranges of rows changed of a number is what all of them did
  along_ranges : (m rows from to : ℕ) (xs : List Stretch) (ns : List Numbered) → m < reached t e → Reaches from to xs
      → All (IsWithin rows) xs → AllZip (IsOfRange t e) xs ns
      → changes_in_ranges m ns ≡ of_number (m + 1) (rows_changes from (to - from) batch_entries)
  along_ranges m rows from to [] [] lt reaches within each =
      let none : 0 ≡ to - from = omega (arith, reaches) in
      ap (λ (n : ℕ). of_number (m + 1) (rows_changes from n batch_entries)) none
  along_ranges m rows from to [] (n ∷ ns) lt reaches within each = absurd each
  along_ranges m rows from to (x ∷ xs) [] lt reaches within each = absurd each
  along_ranges m rows from to (x ∷ xs) (n ∷ ns) lt reaches within each =
      let rest = All-tail (IsWithin rows) x xs within in
      let rising : x.from ≤ x.to = (All-head (IsWithin rows) x xs within).rising in
      let on : x.to ≤ to = reach_le rows x.to to xs reaches.1 rest in
      let here = rows_changes x.from (x.to - x.from) batch_entries in
      let own : changes_at m n ≡ of_number (m + 1) here =
      each.0.changes m lt ∙ ap (of_number (m + 1)) (along_rows x.from (x.to - x.from)) in
      let end : x.to ≡ x.from + (x.to - x.from) = omega (arith, rising) in
      let all : x.to - x.from + (to - x.to) ≡ to - from = omega (arith, rising, on, reaches.0) in
      (λ i. own i ++ along_ranges m rows x.to to xs ns lt reaches.1 rest each.1 i)
      ∙ sym (of_number-append (m + 1) here (rows_changes x.to (to - x.to) batch_entries))
      ∙ ap (of_number (m + 1)) (ap (λ (r : ℕ). here ++ rows_changes r (to - x.to) batch_entries) end
      ∙ sym (rows_more x.from (x.to - x.from) (to - x.to) batch_entries)
      ∙ (λ i. rows_changes (reaches.0 i) (all i) batch_entries))

  counted : length batch_entries ≡ reached t e
  counted = length-map (history t e).ways_reached _

  -- ---- one range

  module _ (x : Stretch) (w : Walked) (within : IsWithin (row_count (head_of t)) x) (walked : IsWalked t e x w) where
    ones : AllByRecursion (IsOneOf (2 * length t.customers) (reached t e)) w.changes.items
    ones =
        let are : w.changes.items ≡ rows_changes x.from (x.to - x.from) batch_entries =
        walked.changes ∙ along_rows x.from (x.to - x.from) in
        subst (AllByRecursion (IsOneOf (2 * length t.customers) (reached t e))) (sym are)
        (subst (λ (n : ℕ). AllByRecursion (IsOneOf (2 * length t.customers) n)
        (rows_changes x.from (x.to - x.from) batch_entries)) counted
        (ones_of_rows (2 * length t.customers) x.from batch_entries (x.to - x.from)
        (omega (arith, within.rising, within.there))))

    weaker : {A : Type 0} (P Q : A → Type 0) → ((y : A) → P y → Q y) → (ys : List A) → AllByRecursion P ys
        → AllByRecursion Q ys
    weaker P Q step [] all = tt
    weaker P Q step (y ∷ ys) all = (step y all.0, weaker P Q step ys all.1)

    pub range_numbers : All (HasNumber (reached t e)) w.changes.items
    range_numbers = All-from_recursion (HasNumber (reached t e)) w.changes.items
        (weaker (IsOneOf (2 * length t.customers) (reached t e)) (HasNumber (reached t e))
        (λ y is. record { one = is.one; there = is.there }) w.changes.items ones)

    pub range_below : All (IsRowBelow (2 * length t.customers)) w.changes.items
    range_below = All-from_recursion (IsRowBelow (2 * length t.customers)) w.changes.items
        (weaker (IsOneOf (2 * length t.customers) (reached t e)) (IsRowBelow (2 * length t.customers))
        (λ y is. is.row) w.changes.items ones)

  -- ---- all of them

  module _ (ns : List Numbered) (are : AreOfRanges t e (row_count (head_of t)) ns) where
    abbrev rows : ℕ
    rows = 2 * length t.customers

    numbered : (n : ℕ) → n ≤ reached t e → ranges_by_number n ns ≡ by_number n (rows_changes 0 rows batch_entries)
    numbered zero le = refl
    numbered (suc n) le =
        let one : n + 1 ≡ suc n = omega arith in
        let all : rows - 0 ≡ rows = omega arith in
        let own : changes_in_ranges n ns ≡ of_number (suc n) (rows_changes 0 rows batch_entries) =
        along_ranges n rows 0 rows are.ranges ns (omega arith) are.cut.reaches are.cut.within are.each
        ∙ (λ i. of_number (one i) (rows_changes 0 (all i) batch_entries)) in
        λ i. numbered n (omega arith) i ++ own i ∷ []

    -- what the rows' walks give is what the attempts wrote by which numbers were reached
    pub ranges_are : ranges_by_number (reached t e) ns ≡ map (changes_below rows) batch_entries
    ranges_are =
        numbered (reached t e) (omega arith)
        ∙ ap (λ (n : ℕ). by_number n (rows_changes 0 rows batch_entries)) (sym counted)
        ∙ numbers_are rows batch_entries (length batch_entries) (omega arith)
        ∙ ap (map (changes_below rows)) (take_all (length batch_entries) batch_entries (omega arith))

-- each range has all numbers that were reached
pub ranges_reach : (t : Trace) (e : ℕ) (ns : List Numbered) → AreOfRanges t e (row_count (head_of t)) ns
    → All (HasNumbersTo (2 * length t.customers) (reached t e)) ns
ranges_reach t e ns are = All-from_recursion (HasNumbersTo (2 * length t.customers) (reached t e)) ns
    (each are.ranges ns are.each)
  where
    each : (xs : List Stretch) (ms : List Numbered) → AllZip (IsOfRange t e) xs ms
        → AllByRecursion (HasNumbersTo (2 * length t.customers) (reached t e)) ms
    each [] [] all = tt
    each [] (m ∷ ms) all = absurd all
    each (x ∷ xs) [] all = absurd all
    each (x ∷ xs) (m ∷ ms) all =
        (record { order = all.0.order; there = omega (arith, all.0.count) }, each xs ms all.1)

last_told : (t : Trace) (e : ℕ) → (section_history t e).committed ≡ (history t e).last
unfolding section_history history
last_told t e = refl

-- as many numbers as the history tells
pub ways_reached_counted : (t : Trace) (e : ℕ) (h : SectionHistory) → IsRightSection t e
    → ((u : Trace) (f : ℕ) → IsRightSection u f
    → length (section_history u f).ways_reached ≡ (section_history u f).committed)
    → h ≡ section_history t e → length h.ways_reached ≡ length (history t e).ways_reached
ways_reached_counted t e h right count is =
    ap (λ (v : SectionHistory). length v.ways_reached) is ∙ count t e right ∙ last_told t e ∙ last_committed t e right
