use Rattle.std.proofs.Common.{length, ap, arith}
use Rattle.eve_votes.proofs.DecisionLaws.{vote_count}
use Rattle.eve_votes.proofs.ballots.vote_at.Goals as goal

pub get-requires : goal.get-requires
get-requires c = omega (
  arith,
  vote_count c.args.trace.now c.args.ballot.verifier,
  ap length c.votes.ensures,
  c.requires.place,
)
