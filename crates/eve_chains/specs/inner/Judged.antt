-- What is found in stretches of a section's attempts. docs/ARCHITECTURE.md, "Threads of an audit".
use Rattle.std.specs.Prelude.{ℕ, List, length}
use Rattle.std.specs.List.{AllZip}
use Rattle.eve_grammar.specs.Trace.{Trace, head_of}
use Rattle.eve_grammar.specs.Limits.{row_count}
use Rattle.eve_history.specs.SectionHistory.{SectionHistory, names_of}
use Rattle.eve_chains.specs.inner.Gathered.{notes_between, AreGathered}
use Rattle.eve_chains.specs.Records.{IsSearched}
use Rattle.eve_chains.specs.inner.Stretches.{AreStretches}
use Rattle.eve_chains.specs.declared.side_by_side.Judged.{Judged}
use Rattle.eve_chains.specs.declared.stretch.Stretch.{Stretch}

-- a stretch is judged: its records are looked at, and its entries are gathered
pub record IsFoundIn (names : List (List ℕ)) (t : Trace) (h : SectionHistory) (x : Stretch) (j : Judged) : Type 0 where
  pub mismatch : IsSearched names t h x j.mismatch
  pub parts : AreGathered (row_count (head_of t)) (notes_between h x.from x.to) j.parts.items

-- all attempts are judged, stretch after stretch
pub record AreFoundIn (t : Trace) (h : SectionHistory) (js : List Judged) : Type 0 where
  pub stretches : List Stretch
  pub cut : AreStretches (length h.attempts) stretches
  pub each : AllZip (IsFoundIn (names_of t) t h) stretches js
