-- Rows walked, each by itself: the first fault, and what the batches change. docs/MODEL.md, "What an entry must see".
use Rattle.std.specs.Prelude.{◌≡◌, ◌≢◌, ℕ, ◌+◌, ◌-◌, ◌<◌, ◌≤◌, List, [], Option, Some, None, length}
use Rattle.std.specs.List.{AllZip}
use Rattle.eve_smallbank.specs.declared.entry.Entry.{Entry}
use Rattle.eve_smallbank.specs.declared.versioned.Versioned.{Versioned}
use Rattle.eve_grammar.specs.Trace.{Trace, head_of}
use Rattle.eve_grammar.specs.Limits.{row_count}
use Rattle.eve_history.specs.SectionHistory.{history}
use Rattle.eve_views.specs.declared.fault.Code.{Code}
use Rattle.eve_views.specs.declared.fault.Code.TheVariants as code
use Rattle.eve_views.specs.declared.fault.Fault.{Fault}
use Rattle.eve_views.specs.Form.{IsLeast, HasNone}
use Rattle.eve_chains.specs.Rows.{bases_of}
use Rattle.eve_chains.specs.Rows.{Noted, Pair, told_of, all_noted, of_row, pair_after, IsWrongOnRow, EachSees}
use Rattle.eve_chains.specs.Changes.{changes_of_rows, of_number, changes_at}
use Rattle.eve_chains.specs.Numbered.{IsInOrder}
use Rattle.eve_chains.specs.inner.Stretches.{AreStretches}
use Rattle.eve_chains.specs.declared.stretch.Stretch.{Stretch}
use Rattle.eve_chains.specs.declared.row_walk.RowWalk.{RowWalk}
use Rattle.eve_chains.specs.declared.rows.Walked.{Walked}
use Rattle.eve_chains.specs.declared.rows.WalkedRange.{WalkedRange}
use Rattle.eve_chains.specs.declared.numbered.Numbered.{Numbered}

-- all is well and none of these faults stands, or this is the first of them, by offset and then by number
abbrev pub IsFirstOrNone : Type 0 → (Fault → Type 0) → Option Fault → Type 0
IsFirstOrNone AllIsWell S None = AllIsWell × HasNone S
IsFirstOrNone AllIsWell S (Some f) = IsLeast S f

-- ---- one row

-- The first thing that is wrong with what an entry sees, where its row has this: some other version, or no other
-- version but some other value.
abbrev pub IsMismatch : Versioned → Entry → Option Code → Type 0
IsMismatch v e None = (e.version ≡ v.version) × (e.seen ≡ v.value)
IsMismatch v e (Some code.Version) = e.version ≢ v.version
IsMismatch v e (Some code.Value) = (e.version ≡ v.version) × (e.seen ≢ v.value)
IsMismatch v e (Some _) = ⊥

abbrev pub pair_of : RowWalk → Pair
pair_of w = record { transferred = w.transferred; view = w.view; committed = w.committed; working = w.working }

-- the first fault of replica e among these entries of a row, which had this at first and after each state transferred
abbrev pub IsFirstOnRow : ℕ → (ℕ → Versioned) → List Noted → Option Fault → Type 0
IsFirstOnRow e bases ns first = IsFirstOrNone (EachSees bases ns) (IsWrongOnRow e bases ns) first

-- such a row is walked along these entries of it
pub record HasChecked (e : ℕ) (bases : ℕ → Versioned) (ns : List Noted) (w : RowWalk) : Type 0 where
  pub pair : pair_of w ≡ pair_after bases ns
  pub first : IsFirstOnRow e bases ns w.first

-- ---- rows from one up to another

-- what is noted of a row along replica e's section
abbrev pub notes_on : Trace → ℕ → ℕ → List Noted
notes_on t e row = of_row row (all_noted (told_of t e))

-- each entry of them sees what its row's walk meets
abbrev pub RowsSee : Trace → ℕ → ℕ → ℕ → Type 0
RowsSee t e from to = (row : ℕ) → from ≤ row → row < to → EachSees (bases_of t e row) (notes_on t e row)

-- a fault on one of them
pub record IsWrongOnSome (t : Trace) (e from to : ℕ) (f : Fault) : Type 0 where
  pub row : ℕ
  pub above : from ≤ row
  pub below : row < to
  pub wrong : IsWrongOnRow e (bases_of t e row) (notes_on t e row) f

-- the first fault on them
abbrev pub IsFirstOnRows : Trace → ℕ → ℕ → ℕ → Option Fault → Type 0
IsFirstOnRows t e from to first = IsFirstOrNone (RowsSee t e from to) (IsWrongOnSome t e from to) first

-- these rows are walked
pub record IsWalked (t : Trace) (e : ℕ) (x : Stretch) (w : Walked) : Type 0 where
  pub first : IsFirstOnRows t e x.from x.to w.first
  pub changes : w.changes.items ≡ changes_of_rows (all_noted (told_of t e)) x.from (x.to - x.from) []

-- ---- what they change, by number

-- how many numbers replica e reached
abbrev pub reached : Trace → ℕ → ℕ
reached t e = length (history t e).ways_reached

-- this is what its batches changed of these rows
pub record IsOfRange (t : Trace) (e : ℕ) (x : Stretch) (n : Numbered) : Type 0 where
  pub count : n.count ≡ reached t e
  pub order : IsInOrder (row_count (head_of t)) n
  pub changes : (i : ℕ) → i < reached t e → changes_at i n
      ≡ of_number (i + 1) (changes_of_rows (all_noted (told_of t e)) x.from (x.to - x.from) [])

-- and this of all rows, range after range
pub record AreOfRanges (t : Trace) (e rows : ℕ) (ns : List Numbered) : Type 0 where
  pub ranges : List Stretch
  pub cut : AreStretches rows ranges
  pub each : AllZip (IsOfRange t e) ranges ns

-- a range is walked, and what its batches changed is in order
pub record IsWalkedRange (t : Trace) (e : ℕ) (x : Stretch) (w : WalkedRange) : Type 0 where
  pub first : IsFirstOnRows t e x.from x.to w.first
  pub changed : IsOfRange t e x w.changed

-- all rows are walked, range after range
pub record AreWalked (t : Trace) (e : ℕ) (ws : List WalkedRange) : Type 0 where
  pub ranges : List Stretch
  pub cut : AreStretches (row_count (head_of t)) ranges
  pub each : AllZip (IsWalkedRange t e) ranges ws
