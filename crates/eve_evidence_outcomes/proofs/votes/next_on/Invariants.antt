use Rattle.std.proofs.Common.{◌≡◌, drop}
use Rattle.eve_evidence_outcomes.specs.Polls.{votes_on}
use Rattle.eve_evidence_outcomes.proofs.votes.next_on.Given as goal

abbrev pub invariant-loop-i : goal.invariant-loop-i
invariant-loop-i l = votes_on l.n l.view (drop l.i l.votes) ≡ votes_on l.n l.view (drop l.from l.votes)
