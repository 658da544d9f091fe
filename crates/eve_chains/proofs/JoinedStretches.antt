-- What is found in stretches of attempts, and in ranges of rows, put together.
use Rattle.std.proofs.Common.{◌≡◌, ℕ, suc, List, [], ◌∷◌, ◌++◌, map, fold, flat_map, length}
use Rattle.std.proofs.Common.{None, Option, refl, sym, subst, append_assoc, append-nil, arith}
use Rattle.std.specs.Prelude.{All}
use Rattle.std.specs.List.{AllZip}
use Rattle.std.proofs.lemmas.List.Elements.{All-nil}
use Rattle.eve_grammar.specs.Trace.{Trace, head_of}
use Rattle.eve_grammar.specs.Limits.{row_count}
use Rattle.eve_views.specs.First.{first_of}
use Rattle.eve_views.specs.declared.fault.Fault.{Fault}
use Rattle.eve_history.specs.SectionHistory.{SectionHistory, names_of}
use Rattle.eve_chains.specs.inner.Gathered.{with_transferred, noted_if_settled, notes_between, AreGathered}
use Rattle.eve_chains.specs.inner.Grouped.{HasGroups}
use Rattle.eve_chains.specs.inner.Judged.{IsFoundIn, AreFoundIn}
use Rattle.eve_chains.specs.Records.{IsSearched, records_between, IsLeastMismatch, lesser}
use Rattle.eve_chains.specs.Rows.{Noted}
use Rattle.eve_chains.specs.inner.Stretches.{IsWithin, Reaches}
use Rattle.eve_chains.specs.inner.Walked.{IsFirstOnRows, IsOfRange, AreOfRanges, IsWalkedRange, AreWalked}
use Rattle.eve_chains.specs.declared.side_by_side.Judged.{Judged}
use Rattle.eve_chains.specs.declared.note.Note.{Note}
use Rattle.eve_chains.specs.declared.grouped.Grouped.{Grouped}
use Rattle.eve_chains.specs.declared.rows.WalkedRange.{WalkedRange}
use Rattle.eve_chains.specs.declared.stretch.Stretch.{Stretch}
use Rattle.eve_chains.proofs.GatheredEntries.{both_gathered}
use Rattle.eve_chains.proofs.Stretches.{least_in_all, none_between, between_joined}
use Rattle.eve_chains.proofs.WalkedRows.{IsFirstOfRange, first_of_ranges}

-- ---- of parts of what is found

zip_parts : {A C D : Type 0} (P : A → C → Type 0) (Q : A → D → Type 0) (g : C → D)
    → ((a : A) (c : C) → P a c → Q a (g c)) → (xs : List A) (ys : List C) → AllZip P xs ys → AllZip Q xs (map g ys)
zip_parts P Q g part [] [] each = tt
zip_parts P Q g part [] (y ∷ ys) each = absurd each
zip_parts P Q g part (x ∷ xs) [] each = absurd each
zip_parts P Q g part (x ∷ xs) (y ∷ ys) each = (part x y each.0, zip_parts P Q g part xs ys each.1)

fold_parts : {A B : Type 0} (step : A → A → A) (g : B → A) (a : A) (ys : List B)
    → fold step a (map g ys) ≡ fold (λ (b : A) (y : B). step b (g y)) a ys
fold_parts step g a [] = refl
fold_parts step g a (y ∷ ys) = fold_parts step g (step a (g y)) ys

-- ---- stretches of attempts

module _ (t : Trace) (h : SectionHistory) (js : List Judged) (are : AreFoundIn t h js) where
  pub least_of_stretches : IsLeastMismatch (names_of t) (records_between t h 0 (length h.attempts))
      (fold (λ (least : Option ℕ) (j : Judged). lesser least j.mismatch) None js)
  least_of_stretches =
      subst (IsLeastMismatch (names_of t) (records_between t h 0 (length h.attempts)))
      (fold_parts lesser (λ (j : Judged). j.mismatch) None js)
      (least_in_all t h (names_of t) 0 (length h.attempts) are.stretches (map (λ j. j.mismatch) js)
      (zip_parts (IsFoundIn (names_of t) t h) (IsSearched (names_of t) t h) (λ j. j.mismatch) (λ x j is. is.mismatch)
      are.stretches js are.each)
      (record { reaches = are.cut.reaches; within = are.cut.within }))

  abbrev rows : ℕ
  rows = row_count (head_of t)

  abbrev parts_of : List Judged → List (Grouped Note)
  parts_of ks = flat_map (λ (j : Judged). j.parts.items) ks

  -- of stretches that follow one another, behind those before
  gathered_along : (from last : ℕ) (xs : List Stretch) (ks : List Judged) (before : List (Grouped Note))
      → AllZip (IsFoundIn (names_of t) t h) xs ks → Reaches from last xs → All (IsWithin last) xs
      → AreGathered rows (notes_between h 0 from) before
      → AreGathered rows (notes_between h 0 last) (before ++ parts_of ks)
  gathered_along from last [] [] before each reaches within known =
      subst (AreGathered rows (notes_between h 0 last)) (sym (append-nil before))
      (subst (λ (n : ℕ). AreGathered rows (notes_between h 0 n) before) reaches known)
  gathered_along from last [] (k ∷ ks) before each reaches within known = absurd each
  gathered_along from last (x ∷ xs) [] before each reaches within known = absurd each
  gathered_along from last (x ∷ xs) (k ∷ ks) before each reaches within known =
      subst (AreGathered rows (notes_between h 0 last)) (append_assoc before k.parts.items (parts_of ks))
      (gathered_along x.to last xs ks (before ++ k.parts.items) each.1 reaches.1
      (λ i d less. within (suc i) d (omega (arith, less)))
      (subst (λ (ns : List Noted). AreGathered rows ns (before ++ k.parts.items))
      (between_joined noted_if_settled (with_transferred h.attempts h.transferred) h.fates 0 x.from x.to (omega arith)
      (within 0 x (omega arith)).rising)
      (both_gathered rows (notes_between h 0 x.from) (notes_between h x.from x.to) before k.parts.items
      (subst (λ (n : ℕ). AreGathered rows (notes_between h 0 n) before) (sym reaches.0) known) each.0.parts)))

  pub parts_of_stretches : AreGathered rows (notes_between h 0 (length h.attempts)) (parts_of js)
  parts_of_stretches =
      gathered_along 0 (length h.attempts) are.stretches js [] are.each are.cut.reaches are.cut.within
      (subst (λ (ns : List Noted). AreGathered rows ns [])
      (sym (none_between noted_if_settled (with_transferred h.attempts h.transferred) h.fates 0))
      (record { own = λ row lt. refl; groups = All-nil (HasGroups rows) }))

-- ---- ranges of rows

module _ (t : Trace) (e : ℕ) (ws : List WalkedRange) (are : AreWalked t e ws) where
  pub first_of_walked : IsFirstOnRows t e 0 (row_count (head_of t))
      (fold (λ (first : Option Fault) (w : WalkedRange). first_of first w.first) None ws)
  first_of_walked =
      subst (IsFirstOnRows t e 0 (row_count (head_of t)))
      (fold_parts first_of (λ (w : WalkedRange). w.first) None ws)
      (first_of_ranges t e (row_count (head_of t)) are.ranges (map (λ w. w.first) ws)
      (zip_parts (IsWalkedRange t e) (IsFirstOfRange t e) (λ w. w.first) (λ x w is. is.first) are.ranges ws are.each)
      are.cut)

  pub ranges_of_walked : AreOfRanges t e (row_count (head_of t)) (map (λ (w : WalkedRange). w.changed) ws)
  ranges_of_walked = record {
    ranges = are.ranges;
    cut = are.cut;
    each = zip_parts (IsWalkedRange t e) (IsOfRange t e) (λ w. w.changed) (λ x w is. is.changed) are.ranges ws are.each;
  }
