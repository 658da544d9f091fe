-- What a tally holds.
use Rattle.eve_votes.specs.Ballots.{HasCast}
use Rattle.eve_votes.specs.Decisions.{AreDecisions}
use Rattle.eve_votes.specs.declared.tally.Tally.TheInside.{Inside}

-- the votes and the decisions of the trace
pub record IsTally (x : Inside) : Type 0 where
  pub cast : HasCast x.trace.now x.ballots.items
  pub decisions : AreDecisions x.trace.now x.decisions.items
