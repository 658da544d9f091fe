-- When what a replica committed can show which tokens are due of another. docs/MODEL.md, "Due tokens".
use Rattle.std.specs.Prelude.{◌≡◌}
use Rattle.eve_grammar.specs.Trace.{Trace}
use Rattle.eve_history.specs.SectionHistory.{SectionHistory, section_history}
use Rattle.eve_chains.specs.CommittedValues.{Settling, settling}
use Rattle.eve_agree.specs.DueTokens.{TokensAreDue}

-- the history is that of one of the trace's replicas, these are its settled values, and each attempt that it committed
-- has the token that it must have
pub record IsDueReplica (t : Trace) (h : SectionHistory) (s : Settling) : Type 0 where
  pub history : h ≡ section_history t h.replica
  pub settled : s ≡ settling t h.replica
  pub due : TokensAreDue t h.replica
