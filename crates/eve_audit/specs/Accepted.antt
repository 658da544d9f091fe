-- What the phases of an audit find where no fault stands. docs/MODEL.md, "The audit theorem".
use Rattle.std.specs.Prelude.{ℕ, AllPairs, ◌≢◌}
use Rattle.eve_grammar.specs.Trace.{Trace}
use Rattle.eve_grammar.specs.Limits.{HasLimits}
use Rattle.eve_history.specs.SectionHistory.{IsRightSection}
use Rattle.eve_chains.specs.Committed.{batch_request_ids}
use Rattle.eve_chains.specs.Sound.{SettledAreSound}
use Rattle.eve_agree.specs.Tables.{RestoresAreRight}
use Rattle.eve_agree.specs.DueTokens.{TokensAreDue}
use Rattle.eve_votes.specs.Faults.{AreVotesSound}
use Rattle.eve_agree.specs.Majority.{AllAreBacked}
use Rattle.eve_agree.specs.Agreement.{ReplicasAgree}
use Rattle.eve_agree.specs.SentReplies.{AllReplied}

-- what the audit theorem needs of the phases, each by itself
pub record IsAccepted (t : Trace) : Type 0 where
  pub limits : HasLimits t
  -- no two requests have one client and number
  pub apart : AllPairs (λ a b. a ≢ b) (batch_request_ids t)
  -- of each replica: its steps, its records and chains, its rollbacks, its tokens
  pub right : (e : ℕ) → IsRightSection t e
  pub sound : (e : ℕ) → SettledAreSound t e
  pub restores : (e : ℕ) → RestoresAreRight t e
  pub tokens : (e : ℕ) → TokensAreDue t e
  -- of the votes
  pub votes : AreVotesSound t
  -- of all replicas together
  pub backed : AllAreBacked t
  pub agree : ReplicasAgree t
  pub replied : AllReplied t
