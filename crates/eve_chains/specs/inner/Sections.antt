-- A replica's section as it is judged, and its rows as they are walked. docs/MODEL.md, "What an entry must see".
use Rattle.std.specs.Prelude.{◌≡◌, length}
use Rattle.eve_grammar.specs.Trace.{opening_rows, head_of}
use Rattle.eve_grammar.specs.Limits.{row_count}
use Rattle.eve_history.specs.SectionHistory.{section_history}
use Rattle.eve_chains.specs.inner.Gathered.{notes_between, AreGathered}
use Rattle.eve_chains.specs.declared.section.Section.{Section}
use Rattle.eve_chains.specs.declared.section.SectionRows.{SectionRows}

-- the history is what the trace's section tells
abbrev pub IsTold : Section → Type 0
IsTold s = s.history.now ≡ section_history s.trace.now s.history.now.replica

-- and these are its rows: their opening balances, and their entries of all attempts
pub record AreRowsOf (x : SectionRows) : Type 0 where
  pub told : IsTold x.section
  pub opening : x.opening.now ≡ opening_rows x.section.trace.now.customers
  pub gathered : AreGathered (row_count (head_of x.section.trace.now))
      (notes_between x.section.history.now 0 (length x.section.history.now.attempts)) x.parts.now
