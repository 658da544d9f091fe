-- What is noted of the attempts that a history tells is what is noted along the section.
use Rattle.std.proofs.Common.{◌≡◌, ℕ, zero, suc, ◌-◌, ◌<◌, ◌≤◌, ◌==◌, Bool, true, false, cond, List, [], ◌∷◌, ◌++◌, map}
use Rattle.std.proofs.Common.{filter, flat_map, slice_get, get_or, Some, length, length-append, refl, sym, subst, ap}
use Rattle.std.proofs.Common.{◌∙◌, arith, IsTrue}
use Rattle.std.specs.Prelude.{nat_lt}
use Rattle.std.specs.List.{AllByRecursion, list_all}
use Rattle.std.proofs.lemmas.Bool.{and_parts, ltb-true, ne_eqb}
use Rattle.std.proofs.lemmas.List.{length-map}
use Rattle.std.proofs.lemmas.Option.{same_Some}
use Rattle.eve_smallbank.specs.Access.{balance_of_row}
use Rattle.eve_smallbank.specs.declared.versioned.Versioned.{Versioned}
use Rattle.eve_smallbank.specs.declared.entry.Entry.{Entry}
use Rattle.eve_grammar.specs.Trace.{Access, Attempt, Step, Attempts, Commits, RollsBack, Transfers, Trace}
use Rattle.eve_grammar.specs.Trace.{opening_rows, head_of}
use Rattle.eve_grammar.specs.Limits.{is_entry, row_count, HasLimits}
use Rattle.eve_grammar.specs.Spelling.{steps_at}
use Rattle.eve_grammar.proofs.Lists.{all-append, all-slice_get, filter_dropped}
use Rattle.eve_history.specs.declared.fate.Fate.{Fate}
use Rattle.eve_history.specs.Fates.{fate_in, fates_from}
use Rattle.eve_history.specs.Section.{Placed, SectionState, start, path_of}
use Rattle.eve_history.specs.Section.{committing, next}
use Rattle.eve_history.specs.SectionHistory.{SectionHistory, executed_attempt, attempts_among, section_history}
use Rattle.eve_history.specs.SectionHistory.{is_committed, ExecutedAttempt, transferred_from, history}
use Rattle.eve_chains.specs.inner.Bases.{base_at, AreBasesOf}
use Rattle.eve_chains.specs.declared.bases.Bases.{Bases}
use Rattle.eve_chains.specs.Visible.{transferred_table}
use Rattle.eve_chains.specs.Along.{AreWithin}
use Rattle.eve_chains.specs.Rows.{states_by, bases_of}
use Rattle.eve_chains.specs.Rows.{Fated, to_come, told_of, settles, Noted, noted_by, noted_in, all_noted, of_row}
use Rattle.eve_chains.specs.Records.{is_settled, by_fates, by_fates_between}
use Rattle.eve_chains.specs.inner.Gathered.{with_transferred, noted_along, noted_if_settled, notes_between}
use Rattle.eve_chains.proofs.Stretches.{all_between}
use Rattle.eve_chains.specs.inner.Walked.{notes_on}
use Rattle.eve_chains.proofs.AttemptRecords.{IsWithin, within_section}
use Rattle.eve_chains.proofs.LinkedPaths.{none≢some}
use Rattle.eve_chains.proofs.Paths.{transferred_more, one_more_state}

noted_of_steps : ℕ → ℕ → List (ℕ × Step) → List Noted
noted_of_steps transferred count steps =
    by_fates noted_if_settled (with_transferred (map executed_attempt (attempts_among steps))
    (transferred_from transferred steps))
    (fates_from count steps)

-- the first attempt's, where it settles
first_noted : (x : Fated) (xs : List Fated) → all_noted (x ∷ xs) ≡ cond (settles x) (noted_in x) [] ++ all_noted xs
first_noted x xs = by (settles x)
  where
    by : (b : Bool) → flat_map noted_in (cond b (x ∷ filter settles xs) (filter settles xs))
        ≡ cond b (noted_in x) [] ++ flat_map noted_in (filter settles xs)
    by true = refl
    by false = refl

told_along : (s : SectionState) (transferred : ℕ) (steps : List (ℕ × Step)) → transferred
    ≡ length (states_by s.ways_reached)
    → noted_of_steps transferred (length s.pending) steps ≡ all_noted (to_come s steps)
unfolding noted_of_steps
told_along s transferred [] as_many = refl
told_along s transferred ((at, Attempts a) ∷ rest) as_many =
    (λ i. cond (settles x) (as_noted (as_many i)) [] ++ (ap (λ (n : ℕ). noted_of_steps transferred n rest) one_more
    ∙ told_along (next s (at, Attempts a)) transferred rest as_many) i)
    ∙ sym (first_noted x (to_come (next s (at, Attempts a)) rest))
  where
    q : Placed
    q = record { offset = at; attempt = a; path = path_of s }

    x : Fated
    x = record { placed = q; transferred = length (states_by s.ways_reached); fate = fate_in rest (length s.pending) }

    as_noted : ℕ → List Noted
    as_noted k = noted_in (record { placed = q; transferred = k; fate = fate_in rest (length s.pending) })

    one_more : suc (length s.pending) ≡ length (s.pending ++ q ∷ [])
    one_more = simp length-append (omega arith)
told_along s transferred ((at, Commits c) ∷ rest) as_many =
    ap (λ (n : ℕ). noted_of_steps transferred n rest) (one_less s.pending)
    ∙ told_along (next s (at, Commits c)) transferred rest (as_many ∙ by s.pending)
  where
    by : (ps : List Placed) → length (states_by s.ways_reached) ≡ length (states_by (committing s ps).ways_reached)
    by [] = refl
    by (p ∷ ps) = ap (λ (xs : List (List Versioned)). length xs) (sym (transferred_more s.ways_reached p))

    one_less : (ps : List Placed) → length s.pending - 1 ≡ length (committing s s.pending).pending
    one_less ps = by s.pending refl
      where
        by : (qs : List Placed) → s.pending ≡ qs → length qs - 1 ≡ length (committing s qs).pending
        by [] is = ap (λ (rs : List Placed). length rs) (sym is)
        by (p ∷ qs) is = omega arith
told_along s transferred ((at, RollsBack r) ∷ rest) as_many =
    told_along (next s (at, RollsBack r)) transferred rest as_many
told_along s transferred ((at, Transfers x) ∷ rest) as_many =
    told_along (next s (at, Transfers x)) (suc transferred) rest
    (ap suc as_many ∙ sym (one_more_state s at x))

-- those of a replica's history
pub noted_told : (t : Trace) (e : ℕ) (h : SectionHistory) → h ≡ section_history t e
    → by_fates noted_if_settled (with_transferred h.attempts h.transferred) h.fates ≡ all_noted (told_of t e)
unfolding section_history noted_of_steps
noted_told t e h is =
    ap (λ (k : SectionHistory). by_fates noted_if_settled (with_transferred k.attempts k.transferred) k.fates) is
    ∙ told_along start 0 (steps_at t e) refl

-- ---- how many states were transferred before an attempt

transferred_of_each : (transferred : ℕ) (steps : List (ℕ × Step)) → length (transferred_from transferred steps)
    ≡ length (attempts_among steps)
transferred_of_each transferred [] = refl
transferred_of_each transferred ((at, Attempts a) ∷ steps) = ap suc (transferred_of_each transferred steps)
transferred_of_each transferred ((at, Commits c) ∷ steps) = transferred_of_each transferred steps
transferred_of_each transferred ((at, RollsBack r) ∷ steps) = transferred_of_each transferred steps
transferred_of_each transferred ((at, Transfers x) ∷ steps) = transferred_of_each (suc transferred) steps

pub as_many_transferred : (t : Trace) (e : ℕ) (h : SectionHistory) → h ≡ section_history t e
    → length h.transferred ≡ length h.attempts
unfolding section_history
as_many_transferred t e h is =
    ap (λ (k : SectionHistory). length k.transferred) is ∙ transferred_of_each 0 (steps_at t e)
    ∙ sym (length-map (attempts_among (steps_at t e)) executed_attempt)
    ∙ ap (λ (k : SectionHistory). length k.attempts) (sym is)

-- the attempt at a place with it
pub transferred_at : (rs : List ExecutedAttempt) (counts : List ℕ) (i : ℕ) (r : ExecutedAttempt) (transferred : ℕ)
    → slice_get rs i ≡ Some r → slice_get counts i ≡ Some transferred → slice_get (with_transferred rs counts) i
    ≡ Some (r, transferred)
transferred_at [] counts i r transferred at its = none≢some r at
transferred_at (q ∷ rs) [] i r transferred at its = none≢some transferred its
transferred_at (q ∷ rs) (n ∷ counts) zero r transferred at its =
    λ k. Some (same_Some q r at k, same_Some n transferred its k)
transferred_at (q ∷ rs) (n ∷ counts) (suc i) r transferred at its = transferred_at rs counts i r transferred at its

as_many_with : (rs : List ExecutedAttempt) (counts : List ℕ) → length counts ≡ length rs
    → length (with_transferred rs counts) ≡ length rs
as_many_with [] counts many = refl
as_many_with (r ∷ rs) [] many = absurd (omega (arith, many))
as_many_with (r ∷ rs) (n ∷ counts) many = ap suc (as_many_with rs counts (omega (arith, many)))

-- ---- what rows have at first, and after each state

pub are_bases : (t : Trace) (e : ℕ) (b : Bases) → b.history.now ≡ section_history t e
    → b.opening.now ≡ opening_rows t.customers → AreBasesOf t e b
unfolding section_history history
are_bases t e b is opening row = λ i k. each k i
  where
    each : (k : ℕ) → base_at b row k ≡ bases_of t e row k
    each zero = λ i. record { version = 0; value = balance_of_row (opening i) row }
    each (suc k) = λ i. transferred_table (get_or (map (λ x. x.1.rows) (is i).transfers) k []) row

-- ---- the rows that there are

abbrev pub IsRowBelow : ℕ → Noted → Type 0
IsRowBelow rows n = n.entry.row < rows

below_in : (rows at transferred view number : ℕ) (commits : Bool) (es : List Entry)
    → IsTrue (list_all (is_entry rows) es)
    → AllByRecursion (IsRowBelow rows) (map (λ e. record {
      offset = at;
      transferred = transferred;
      view = view;
      number = number;
      commits = commits;
      entry = e;
    }) es)
below_in rows at transferred view number commits [] within = tt
below_in rows at transferred view number commits (e ∷ es) within =
    let parts = and_parts (is_entry rows e) (list_all (is_entry rows) es) within in (
      ltb-true e.row rows (and_parts (nat_lt e.row rows) _ parts.0).0,
      below_in rows at transferred view number commits es parts.1,
    )

below_along : (rows transferred view number : ℕ) (commits : Bool) (xs : List (ℕ × Access)) → AreWithin rows xs
    → AllByRecursion (IsRowBelow rows) (flat_map (noted_by transferred view number commits) xs)
below_along rows transferred view number commits [] within = tt
below_along rows transferred view number commits (x ∷ xs) within =
    let parts = and_parts (list_all (is_entry rows) x.1.entries)
    (list_all (λ y. list_all (is_entry rows) y.1.entries) xs)
    within in
    all-append (IsRowBelow rows) (noted_by transferred view number commits x)
    (flat_map (noted_by transferred view number commits) xs)
    (below_in rows x.0 transferred view number commits x.1.entries parts.0)
    (below_along rows transferred view number commits xs parts.1)

pub below_settled : (rows : ℕ) (r : ExecutedAttempt) (transferred : ℕ) (fate : Fate) → AreWithin rows r.ordered
    → AllByRecursion (IsRowBelow rows) (noted_if_settled (r, transferred) fate)
below_settled rows r transferred fate within = by (is_settled fate)
  where
    along : AllByRecursion (IsRowBelow rows) (noted_along (r, transferred) fate)
    along = below_along rows transferred r.attempt.view r.attempt.seq (is_committed fate) r.ordered within

    by : (b : Bool) → AllByRecursion (IsRowBelow rows) (cond b (noted_along (r, transferred) fate) [])
    by true = along
    by false = tt

below_gathered : (rows : ℕ) (xs : List (ℕ × Attempt)) (counts : List ℕ) (fates : List Fate)
    → AllByRecursion (IsWithin rows) xs
    → AllByRecursion (IsRowBelow rows)
    (by_fates noted_if_settled (with_transferred (map executed_attempt xs) counts) fates)
below_gathered rows [] counts fates within = tt
below_gathered rows (x ∷ xs) [] fates within = tt
below_gathered rows (x ∷ xs) (transferred ∷ counts) [] within = tt
below_gathered rows (x ∷ xs) (transferred ∷ counts) (fate ∷ fates) within =
    all-append (IsRowBelow rows) (noted_if_settled (executed_attempt x, transferred) fate)
    (by_fates noted_if_settled (with_transferred (map executed_attempt xs) counts) fates)
    (below_settled rows (executed_attempt x) transferred fate within.0.within)
    (below_gathered rows xs counts fates within.1)

none_of_row : (rows row : ℕ) (ns : List Noted) → rows ≤ row → AllByRecursion (IsRowBelow rows) ns → of_row row ns ≡ []
none_of_row rows row [] past below = refl
none_of_row rows row (n ∷ ns) past below =
    filter_dropped (λ (m : Noted). m.entry.row == row) n ns (ne_eqb n.entry.row row other)
    ∙ none_of_row rows row ns past below.1
  where
    other : n.entry.row ≡ row → ⊥
    other same = omega (arith, below.0)

-- past the rows that there are nothing is noted
pub none_past : (t : Trace) (e row : ℕ) → HasLimits t → row_count (head_of t) ≤ row → notes_on t e row ≡ []
unfolding noted_of_steps steps_at
none_past t e row limits past =
    none_of_row (row_count (head_of t)) row (all_noted (told_of t e)) past
    (subst (AllByRecursion (IsRowBelow (row_count (head_of t)))) (told_along start 0 (steps_at t e) refl)
    (below_gathered (row_count (head_of t)) (attempts_among (steps_at t e)) (transferred_from 0 (steps_at t e))
    (fates_from 0 (steps_at t e))
    (within_section t e limits)))

-- an attempt that the history tells lies within the limits
pub within_told : (t : Trace) (e : ℕ) (h : SectionHistory) (i : ℕ) (r : ExecutedAttempt) → HasLimits t
    → h ≡ section_history t e → slice_get h.attempts i ≡ Some r → AreWithin (row_count (head_of t)) r.ordered
unfolding section_history
within_told t e h i r limits is at =
    all-slice_get (λ (q : ExecutedAttempt). AreWithin (row_count (head_of t)) q.ordered) h.attempts i r
    (subst (λ (k : SectionHistory). AllByRecursion (λ (q : ExecutedAttempt).
    AreWithin (row_count (head_of t)) q.ordered) k.attempts) (sym is)
    (along (attempts_among (steps_at t e)) (within_section t e limits))) at
  where
    along : (xs : List (ℕ × Attempt)) → AllByRecursion (IsWithin (row_count (head_of t))) xs
        → AllByRecursion (λ (q : ExecutedAttempt). AreWithin (row_count (head_of t)) q.ordered)
        (map executed_attempt xs)
    along [] all = tt
    along (x ∷ xs) all = (all.0.within, along xs all.1)

-- what all attempts note is what is noted along the section
pub all_told : (t : Trace) (h : SectionHistory) → h ≡ section_history t h.replica
    → notes_between h 0 (length h.attempts) ≡ all_noted (told_of t h.replica)
all_told t h is =
    let xs = with_transferred h.attempts h.transferred in
    let many : length h.attempts ≡ length xs =
    sym (as_many_with h.attempts h.transferred (as_many_transferred t h.replica h is)) in
    ap (by_fates_between noted_if_settled xs h.fates 0) many ∙ all_between noted_if_settled xs h.fates
    ∙ noted_told t h.replica h is
