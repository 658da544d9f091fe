-- What an audit answers for bytes. docs/MODEL.md, "Verdict" and "The audit theorem".
use Rattle.std.specs.Prelude.{◌≡◌, ℕ, ◌≤◌, List, length, ⊤}
use Rattle.eve_grammar.specs.Trace.{Trace}
use Rattle.eve_grammar.specs.FrameOrder.{Spells}
use Rattle.eve_views.specs.Form.{HasNone, StandsInForm, IsFaultOutside}
use Rattle.eve_views.specs.declared.fault.Fault.{Fault}
use Rattle.eve_history.specs.SectionHistory.{section_histories}
use Rattle.eve_audit.specs.declared.verdict.AcceptedTrace.{AcceptedTrace}
use Rattle.eve_audit.specs.declared.verdict.WholeVerdict.{WholeVerdict}
use Rattle.eve_audit.specs.declared.verdict.WholeVerdict.TheVariants as whole
use Rattle.eve_audit.specs.declared.verdict.Verdict.{Verdict}
use Rattle.eve_audit.specs.Verdict.{IsVerdict, SpellsAudited}
use Rattle.eve_audit.specs.Where.{NamesItsSection}
use Rattle.eve_audit.specs.declared.verdict.Verdict.TheVariants.{Yes, No}

-- a yes is said of such bytes alone
abbrev pub IsYesOfAudited : List ℕ → Verdict → Type 0
IsYesOfAudited bytes (Yes s) = SpellsAudited bytes
IsYesOfAudited bytes (No f) = ⊤

-- a fact about the fault that a no names
abbrev pub IfNo : Verdict → (Fault → Type 0) → Type 0
IfNo (Yes s) P = ⊤
IfNo (No f) P = P f

-- the bytes spell this trace, and have no fault of form
pub record IsRead (bytes : List ℕ) (t : Trace) : Type 0 where
  pub spells : Spells bytes t
  pub none : HasNone (IsFaultOutside StandsInForm bytes)

-- the verdict on the bytes, with what a yes means, where a no lies, and which replica it names
pub record IsAnswer (bytes : List ℕ) (v : Verdict) : Type 0 where
  pub verdict : IsVerdict bytes v
  pub yes : IsYesOfAudited bytes v
  pub within : IfNo v (λ f. f.offset ≤ length bytes)
  pub replica : IfNo v (NamesItsSection bytes)

-- ---- with the trace of a yes

-- the verdict alone
abbrev pub verdict_of : WholeVerdict → Verdict
verdict_of (whole.Yes a) = Yes a.summary
verdict_of (whole.No f) = No f

-- a fact about the trace that a yes hands on
abbrev pub IfAccepted : WholeVerdict → (AcceptedTrace → Type 0) → Type 0
IfAccepted (whole.Yes a) P = P a
IfAccepted (whole.No f) P = ⊤

-- the answer for the bytes, and of a yes the trace that they spell, with what its sections tell
pub record IsWholeAnswer (bytes : List ℕ) (w : WholeVerdict) : Type 0 where
  pub answer : IsAnswer bytes (verdict_of w)
  pub trace : IfAccepted w (λ a. Spells bytes a.trace)
  pub histories : IfAccepted w (λ a. a.histories.items ≡ section_histories a.trace)
