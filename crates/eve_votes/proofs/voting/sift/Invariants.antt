use Rattle.eve_votes.proofs.SiftedVotes.{Sifted}
use Rattle.eve_votes.proofs.voting.sift.Given as goal

abbrev pub invariant-loop-i : goal.invariant-loop-i
invariant-loop-i l = Sifted l.trace l.ballots l.i l.only.items l.least
