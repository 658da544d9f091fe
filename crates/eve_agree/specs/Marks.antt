-- What the first write of a row saw, marked by row, and restores that take the marks away.
use Rattle.std.specs.Prelude.{ℕ, ◌-◌, ◌==◌, Bool, false, ◌&&◌, if◌then◌else◌, is_some, List, [], ◌∷◌, take}
use Rattle.std.specs.Prelude.{drop, Option, Some, None, slice_index_or}
use Rattle.std.specs.List.{list_any, flat_map, sum_by}
use Rattle.std.specs.Ordering.{int_eq}
use Rattle.eve_smallbank.specs.declared.entry.Entry.{Entry}
use Rattle.eve_smallbank.specs.Access.{writes_row}
use Rattle.eve_smallbank.specs.Chain.{Table}
use Rattle.eve_smallbank.specs.declared.versioned.Versioned.{Versioned}
use Rattle.eve_history.specs.SectionHistory.{ExecutedAttempt}
use Rattle.eve_chains.specs.Along.{entries_along}
use Rattle.eve_grammar.specs.declared.restore.Restore.{Restore}

-- what is marked of each row, where something is
abbrev pub Marking : Type 0
Marking = ℕ → Option Versioned

-- the same of the rows that there are
abbrev pub marking_of : List (Option Versioned) → Marking
marking_of rows row = slice_index_or rows row None

-- no row is marked
abbrev pub unmarked : Marking
unmarked row = None

-- how many rows are marked
abbrev pub marked_count : List (Option Versioned) → ℕ
marked_count rows = sum_by (λ m. if is_some m then 1 else 0) rows

-- ---- marks that are made

abbrev pub seen_by : Entry → Versioned
seen_by e = record { version = e.version; value = e.seen }

-- what a restore puts into its row
abbrev pub restored_to : Restore → Versioned
restored_to r = record { version = r.version; value = r.value }

-- what is marked already stays
abbrev pub marked_once : Option Versioned → Versioned → Option Versioned
marked_once None v = Some v
marked_once (Some u) v = Some u

-- with what the first write of each row saw
abbrev pub marked : Marking → List Entry → Marking
marked marks [] = marks
marked marks (e ∷ es) = marked (λ row. if writes_row row e then marked_once (marks row) (seen_by e) else marks row) es

-- with what restores say of the rows that have no mark
abbrev pub marked_by : Marking → List Restore → Marking
marked_by marks [] = marks
marked_by marks (r ∷ rs) =
    marked_by (λ row. if r.row == row then marked_once (marks row) (restored_to r) else marks row) rs

-- all that the attempts from one number up to another noted, each in its certificate's order
abbrev pub noted_between : List ExecutedAttempt → ℕ → ℕ → List Entry
noted_between rs first end = flat_map (λ r. entries_along r.ordered) (take (end - first) (drop first rs))

-- the rows that these entries write, each with what it has in the table
abbrev pub written_in : Table → List Entry → Marking
written_in table es row = if list_any (writes_row row) es then Some (table row) else None

-- ---- marks that are taken away

-- the restore is as its row is marked
abbrev pub is_marked : Option Versioned → Restore → Bool
is_marked None r = false
is_marked (Some v) r = (r.version == v.version) && int_eq r.value v.value

abbrev pub restores_row : ℕ → List Restore → Bool
restores_row row rs = list_any (λ r. r.row == row) rs

-- without the rows of these restores
abbrev pub cleared : Marking → List Restore → Marking
cleared marks rs row = if restores_row row rs then None else marks row
