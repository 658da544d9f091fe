-- What shows that a record doesn't fit its request. docs/MODEL.md, "A record fits its request".
use Rattle.std.specs.Prelude.{◌≡◌, ◌≢◌, ℕ, List, map, take, length, slice_get, Some}
use Rattle.eve_smallbank.specs.declared.entry.Entry.{Entry}
use Rattle.eve_smallbank.specs.SmallBank.{Request}
use Rattle.eve_smallbank.specs.Access.{Executed, Fits}
use Rattle.eve_smallbank.specs.Touch.{touched_of, rows_in}
use Rattle.eve_smallbank.specs.Decide.{effect_in}
use Rattle.eve_grammar.specs.Trace.{Trace}
use Rattle.eve_evidence.specs.declared.evidence.ToldRow.{ToldRow}
use Rattle.eve_evidence.specs.declared.evidence.RecordFault.{RecordFault}
use Rattle.eve_evidence.specs.declared.evidence.RecordFault.TheVariants as wrong
use Rattle.eve_evidence.specs.Told.{IsToldRow}

-- the rows that a request touches, where the customers have these names
abbrev pub touched_rows : List (List ℕ) → Request → List ℕ
touched_rows names request = map (λ r. r.0) (rows_in (touched_of names request))

-- the rows of entries
abbrev pub rows_noted : List Entry → List ℕ
rows_noted es = map (λ e. e.row) es

-- The record fits: the one of the same request whose entries are of the same rows, and saw the same.
pub record IsDueRecord (names : List (List ℕ)) (x due : Executed) : Type 0 where
  pub fits : Fits names due
  pub request : due.request ≡ x.request
  pub rows : rows_noted due.entries ≡ rows_noted x.entries
  pub versions : map (λ e. e.version) due.entries ≡ map (λ e. e.version) x.entries
  pub seen : map (λ e. e.seen) due.entries ≡ map (λ e. e.seen) x.entries

-- up to this entry two records have the same kinds and leave the same
abbrev pub AreSameUpTo : ℕ → List Entry → List Entry → Type 0
AreSameUpTo entry es ds = take entry (map effect_in es) ≡ take entry (map effect_in ds)

-- The first entry of another row.
pub record IsOtherRow (t : Trace) (own rows : List ℕ) (entry : ℕ) (found due : ToldRow) : Type 0 where
  pub before : take entry own ≡ take entry rows
  pub row : ℕ
  pub due_row : ℕ
  pub there : slice_get own entry ≡ Some row
  pub touched : slice_get rows entry ≡ Some due_row
  pub other : row ≢ due_row
  pub found_is : IsToldRow t row found
  pub due_is : IsToldRow t due_row due

-- The first entry of another kind, or that leaves another value: the entry, and the one that is due.
pub record IsOtherEntry (names : List (List ℕ)) (x : Executed) (entry : ℕ) (e d : Entry) : Type 0 where
  pub record_is : Executed
  pub due : IsDueRecord names x record_is
  pub before : AreSameUpTo entry x.entries record_is.entries
  pub there : slice_get x.entries entry ≡ Some e
  pub due_there : slice_get record_is.entries entry ≡ Some d

-- the first thing in which an executed request differs from what it must note
abbrev pub IsRecordFault : Trace → List (List ℕ) → Executed → RecordFault → Type 0
IsRecordFault t names x (wrong.Entries found due) =
    (found ≡ length x.entries) × (due ≡ length (touched_rows names x.request)) × (found ≢ due)
IsRecordFault t names x (wrong.Row entry found due) =
    (length x.entries ≡ length (touched_rows names x.request))
    × IsOtherRow t (rows_noted x.entries) (touched_rows names x.request) entry found due
IsRecordFault t names x (wrong.Kind entry found due) =
    (e : Entry) × (d : Entry) × IsOtherEntry names x entry e d × (found ≡ e.kind) × (due ≡ d.kind) × (found ≢ due)
IsRecordFault t names x (wrong.After entry found due) =
    (e : Entry) × (d : Entry) × IsOtherEntry names x entry e d × (e.kind ≡ d.kind) × (found ≡ e.after)
    × (due ≡ d.after) × (found ≢ due)
IsRecordFault t names x (wrong.Reply found due) =
    (d : Executed) × IsDueRecord names x d × (map effect_in x.entries ≡ map effect_in d.entries) × (found ≡ x.reply)
    × (due ≡ d.reply) × (found ≢ due)
