-- Which replica a fault names. docs/MODEL.md, "Faults".
use Rattle.std.specs.Prelude.{◌≡◌, ℕ, ◌↔◌, IsTrue, List, Some, None}
use Rattle.eve_grammar.specs.Trace.{Trace}
use Rattle.eve_grammar.specs.FrameOrder.{Spells}
use Rattle.eve_views.specs.Parts.{is_in_section}
use Rattle.eve_views.specs.declared.fault.Fault.{Fault}

-- the fault names the replica in whose section it lies, and none where it lies in none
pub record NamesItsSection (bytes : List ℕ) (f : Fault) : Type 0 where
  -- in the trace that the bytes spell
  pub names : (t : Trace) → Spells bytes t → (e : ℕ) → (f.replica ≡ Some e) ↔ IsTrue (is_in_section t e f.offset)
  -- bytes that are no trace have no sections
  pub outside : ((t : Trace) → ¬ Spells bytes t) → f.replica ≡ None
