use Rattle.std.proofs.Common.{◌≡◌, take}
use Rattle.eve_votes.specs.Ballots.{ballots_among}
use Rattle.eve_votes.proofs.voting.votes_in.Given as goal

abbrev pub invariant-loop-verifier : goal.invariant-loop-verifier
invariant-loop-verifier l = l.ballots.items ≡ ballots_among 0 (take l.verifier l.trace.verifiers)
