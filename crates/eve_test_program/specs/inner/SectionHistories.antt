-- What the replicas below some number tell, and what they committed.
use Rattle.std.specs.Prelude.{◌≡◌, ℕ, ◌<◌, List, map, take}
use Rattle.eve_grammar.specs.Trace.{Trace}
use Rattle.eve_grammar.specs.Frames.{sections_of}
use Rattle.eve_history.specs.SectionHistory.{SectionHistory, section_history, IsRightSection}
use Rattle.eve_chains.specs.CommittedValues.{Settling, settling}

-- in their order, and their sections are right
pub record AreTold (t : Trace) (n : ℕ) (told : List SectionHistory) (wrote : List Settling) : Type 0 where
  pub histories : told ≡ map (λ s. section_history t s.0) (take n (sections_of t))
  pub settled : wrote ≡ map (λ s. settling t s.0) (take n (sections_of t))
  pub right : (e : ℕ) → e < n → IsRightSection t e
