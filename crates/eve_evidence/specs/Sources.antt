-- Who left what an entry must see: the nearest earlier write of its row, or the last state that was transferred.
-- docs/MODEL.md, "Visible version, chained".
use Rattle.std.specs.Prelude.{◌≡◌, ℕ, ◌++◌, List, ◌∷◌, map, IsTrue, Option, None, Some, if◌then◌else◌, fold}
use Rattle.std.specs.List.{AllByRecursion, flat_map, list_any}
use Rattle.std.specs.Option.{option_map}
use Rattle.eve_smallbank.specs.declared.entry.Entry.{Entry}
use Rattle.eve_smallbank.specs.declared.versioned.Versioned.{Versioned}
use Rattle.eve_smallbank.specs.Access.{writes_row}
use Rattle.eve_smallbank.specs.Chain.{Table, left_by, table_after}
use Rattle.eve_grammar.specs.Trace.{Access, Attempt, Trace, Transfer}
use Rattle.eve_grammar.specs.Spelling.{accesses_at}
use Rattle.eve_history.specs.SectionHistory.{access_with}
use Rattle.eve_chains.specs.Visible.{before_index, opening_table, transferred_table}
use Rattle.eve_evidence.specs.declared.evidence.Source.{Source}
use Rattle.eve_evidence.specs.declared.evidence.Source.TheVariants as source

-- an access record: the number of its batch, the index of its request, its frame's offset, and its entries
pub record Passed : Type 0 where
  pub batch : ℕ
  pub index : ℕ
  pub at : ℕ
  pub entries : List Entry

abbrev pub passed_by : ℕ → ℕ × Access → Passed
passed_by seq x = record { batch = seq; index = x.1.index; at = x.0; entries = x.1.entries }

-- the records of these indexes
abbrev pub passed : ℕ → List (ℕ × Access) → List ℕ → List Passed
passed seq xs order = map (λ i. passed_by seq (access_with xs i)) order

-- those of an attempt, whose frame stands at this offset, in its certificate's order
abbrev pub passed_in : ℕ × Attempt → List Passed
passed_in (at, a) = passed a.seq (accesses_at at a) a.certificate

-- The way to the record of an index in an attempt, along these attempts before it: their records, and the attempt's own
-- up to that index in its certificate.
abbrev pub way_to : List (ℕ × Attempt) → ℕ → Attempt → ℕ → List Passed
way_to path at a index =
    flat_map passed_in path ++ passed a.seq (accesses_at at a) (before_index index a.certificate)

-- the record writes the row
abbrev pub IsWriter : ℕ → Passed → Type 0
IsWriter row x = IsTrue (list_any (writes_row row) x.entries)

-- no record on the way writes it
abbrev pub NoneWrites : ℕ → List Passed → Type 0
NoneWrites row way = AllByRecursion (λ x. ¬ IsWriter row x) way

-- of the records on the way this one is the last that writes the row
pub record IsNearest (row : ℕ) (way : List Passed) (x : Passed) : Type 0 where
  pub before : List Passed
  pub behind : List Passed
  pub is : way ≡ before ++ x ∷ behind
  pub writes : IsWriter row x
  pub none : NoneWrites row behind

-- who left what the row has at the end of the way, which begins behind this state, or at the opening
abbrev pub IsLeftBy : Option (ℕ × Transfer) → ℕ → List Passed → Source → Type 0
IsLeftBy state row way source.Opening = (state ≡ None) × NoneWrites row way
IsLeftBy state row way (source.Transfer at) = (option_map (λ x. x.0) state ≡ Some at) × NoneWrites row way
IsLeftBy state row way (source.Write index batch at) =
    (x : Passed) × IsNearest row way x × (x.index ≡ index) × (x.batch ≡ batch) × (x.at ≡ at)

-- ---- what the rows have

-- what the rows have in this state, or at the opening
abbrev pub state_table : Trace → Option (ℕ × Transfer) → Table
state_table t None = opening_table t
state_table t (Some x) = transferred_table x.1.rows

-- what the last of these entries that writes the row leaves in it, if one does
abbrev pub last_left : ℕ → List Entry → Option Versioned
last_left row es = fold (λ last e. if writes_row row e then Some (left_by e) else last) None es

-- a table after the writes on a way
abbrev pub table_after_way : Table → List Passed → Table
table_after_way table way = fold (λ now x. table_after now x.entries) table way
