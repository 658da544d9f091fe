-- What shows a fault of chains. docs/MODEL.md, "What an entry must see".
use Rattle.std.specs.Prelude.{◌≡◌, ℕ, List, Option, length}
use Rattle.std.specs.List.{AllByRecursion}
use Rattle.eve_smallbank.specs.declared.entry.Entry.{Entry}
use Rattle.eve_smallbank.specs.Chain.{Table}
use Rattle.eve_grammar.specs.Trace.{Access, Attempt, Transfer, Trace}
use Rattle.eve_views.specs.declared.fault.Code.{Code}
use Rattle.eve_views.specs.Form.{SomePlace}
use Rattle.eve_history.specs.Section.{SectionState}
use Rattle.eve_grammar.specs.Spelling.{accesses_at}
use Rattle.eve_chains.specs.Visible.{before_index, visible_to}
use Rattle.eve_chains.specs.Along.{SeesAnother}
use Rattle.eve_evidence.specs.declared.evidence.WrongEntry.{WrongEntry}
use Rattle.eve_evidence.specs.Course.{last_state, standing}
use Rattle.eve_evidence.specs.Told.{IsToldRow, placed_in}
use Rattle.eve_evidence.specs.Sources.{Passed, passed, IsLeftBy, way_to}
use Rattle.eve_evidence.specs.Seen.{IsSeenBy}

-- The entry is the first that sees another version, or another value, than its row has in the table; that was left on
-- the way to it from this state, or from the opening. Of the records before it in its own attempt, who saw what it
-- left.
pub record IsWrongEntry (t : Trace) (c : Code) (table : Table) (state : Option (ℕ × Transfer)) (way : List Passed)
    (own : List Passed) (before : List Entry) (e : Entry) (w : WrongEntry) : Type 0 where
  pub first : AllByRecursion (λ y. ¬ SeesAnother c (table y.row) y) before
  pub wrong : SeesAnother c (table e.row) e
  pub place : w.entry ≡ length before
  pub kind : w.kind ≡ e.kind
  pub row : IsToldRow t e.row w.row
  pub saw : w.saw ≡ record { version = e.version; value = e.seen }
  pub due : w.due ≡ table e.row
  pub left : IsLeftBy state e.row way w.left_by
  pub seen : IsSeenBy own e w.seen_by

-- the first wrong entry of a record of an attempt, where the section has come to this
abbrev pub IsFirstWrongEntry : Trace → Code → SectionState → ℕ → Attempt → Access → WrongEntry → Type 0
IsFirstWrongEntry t c s at a x w =
    SomePlace x.entries (λ before e. IsWrongEntry t c (visible_to t (placed_in s at a) x.index)
    (last_state s.ways_reached)
    (way_to (standing s) at a x.index) (passed a.seq (accesses_at at a) (before_index x.index a.certificate)) before e
    w)
