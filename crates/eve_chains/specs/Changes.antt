-- What batches change: for each row that a batch writes, the value after its last write.
-- docs/MODEL.md, "Bank and replies after a committed batch".
use Rattle.std.specs.Prelude.{ℕ, ℤ, zero, suc, ◌+◌, ◌==◌, ◌&&◌, if◌then◌else◌, List, [], ◌∷◌, ◌++◌, map, filter, fold}
use Rattle.std.specs.Prelude.{Option, Some, None, slice_index_or, slice_range}
use Rattle.std.specs.List.{flat_map}
use Rattle.eve_smallbank.specs.declared.entry.Entry.{Entry}
use Rattle.eve_smallbank.specs.Access.{is_write, writes_row}
use Rattle.eve_chains.specs.Rows.{Noted, of_row}
use Rattle.eve_chains.specs.declared.changed.Changed.{Changed}
use Rattle.eve_chains.specs.declared.numbered.Numbered.{Numbered}

-- ---- of entries

-- the value after the last of these entries that writes the row, if one does
abbrev pub last_written : ℕ → List Entry → Option ℤ
last_written row es = fold (λ last e. if writes_row row e then Some e.after else last) None es

-- the row with that value, if there is one
abbrev pub change_to : ℕ → Option ℤ → List (ℕ × ℤ)
change_to row None = []
change_to row (Some z) = (row, z) ∷ []

-- the rows below this number that the entries write, rising, each with the value after its last write
abbrev pub changes_below : ℕ → List Entry → List (ℕ × ℤ)
changes_below zero es = []
changes_below (suc row) es = changes_below row es ++ change_to row (last_written row es)

-- values of rows, after these changes
abbrev pub values_changed : (ℕ → ℤ) → List (ℕ × ℤ) → ℕ → ℤ
values_changed values changes = fold (λ now c row. if c.0 == row then c.1 else now row) values changes

-- ---- along a row

-- one change more; it takes the place of the last where that is of the same batch and row
abbrev pub with_change : List Changed → Changed → List Changed
with_change [] c = c ∷ []
with_change (x ∷ []) c = if (x.number == c.number) && (x.row == c.row) then c ∷ [] else x ∷ c ∷ []
with_change (x ∷ y ∷ xs) c = x ∷ with_change (y ∷ xs) c

-- what an entry changes, where its attempt is committed
abbrev pub change_by : List Changed → Noted → List Changed
change_by cs n = if n.commits && is_write n.entry.kind
    then with_change cs (record { number = n.number; row = n.entry.row; value = n.entry.after }) else cs

-- what a row's entries change, one after another
abbrev pub changes_along : List Changed → List Noted → List Changed
changes_along cs ns = fold change_by cs ns

-- what is changed in the given number of rows, from this one on, row after row
abbrev pub changes_of_rows : List Noted → ℕ → ℕ → List Changed → List Changed
changes_of_rows ns from zero cs = cs
changes_of_rows ns from (suc count) cs = changes_along (changes_of_rows ns from count cs) (of_row (from + count) ns)

-- ---- by number

-- a change without the number of its batch
abbrev pub change_of : Changed → ℕ × ℤ
change_of c = (c.row, c.value)

-- those of the batch with this number
abbrev pub of_number : ℕ → List Changed → List (ℕ × ℤ)
of_number n cs = map change_of (filter (λ c. c.number == n) cs)

-- those of each of the first n batches
abbrev pub by_number : ℕ → List Changed → List (List (ℕ × ℤ))
by_number zero cs = []
by_number (suc n) cs = by_number n cs ++ of_number (suc n) cs ∷ []

-- those of batch n + 1 where they stand batch after batch
abbrev pub changes_at : ℕ → Numbered → List (ℕ × ℤ)
changes_at n x = map change_of
    (slice_range x.changes.items (slice_index_or x.starts.items n 0) (slice_index_or x.starts.items (suc n) 0))

-- ---- range after range

-- those of batch n + 1 in ranges of rows
abbrev pub changes_in_ranges : ℕ → List Numbered → List (ℕ × ℤ)
changes_in_ranges n xs = flat_map (changes_at n) xs

-- those of each of the first n batches
abbrev pub ranges_by_number : ℕ → List Numbered → List (List (ℕ × ℤ))
ranges_by_number zero xs = []
ranges_by_number (suc n) xs = ranges_by_number n xs ++ changes_in_ranges n xs ∷ []
