-- In which section an offset lies, and how a trace is laid out.
use Rattle.std.specs.Prelude.{◌≡◌, ℕ, ◌+◌, ◌<◌, ◌≤◌, Some}
use Rattle.std.specs.List.{AllByRecursion}
use Rattle.eve_grammar.specs.Trace.{Transfer, Attempts, Transfers, Trace}
use Rattle.eve_grammar.specs.Spelling.{section_start}
use Rattle.eve_views.specs.inner.PartPlaces.{StandInOrder}
use Rattle.eve_history.specs.Section.{Placed, ByTransfer, settled}
use Rattle.eve_history.specs.SectionHistory.{history, how_reached_at, committed_at}
use Rattle.eve_history.specs.inner.AmongSteps.{IsStepOf}

-- the offset lies in the section of replica e
abbrev pub LiesIn : Trace → ℕ → ℕ → Type 0
LiesIn t e at = (section_start t e ≤ at) × (at < section_start t (e + 1))

-- what the laws say of where the parts of a trace stand, and which of its steps its sections came to
pub record IsLaidOut (t : Trace) : Type 0 where
  pub parts : StandInOrder t
  pub committed : (e n : ℕ) (p : Placed) → committed_at t e n ≡ Some p → IsStepOf t e p.offset (Attempts p.attempt)
  pub each_settled : (e : ℕ) → AllByRecursion (λ p. IsStepOf t e p.offset (Attempts p.attempt)) (settled (history t e))
  pub transferred : (e n at : ℕ) (x : Transfer) → how_reached_at t e n ≡ Some (ByTransfer at x)
      → IsStepOf t e at (Transfers x)
