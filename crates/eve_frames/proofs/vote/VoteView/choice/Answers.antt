use Rattle.std.proofs.Common.{sym, arith}
use Rattle.eve_frames.proofs.VotePlaces.{vote_rollback}
use Rattle.eve_frames.proofs.vote.VoteView.choice.Goals as goal

pub returns-else-bytes-eq1 : goal.returns-else-bytes-eq1
returns-else-bytes-eq1 c =
    sym (vote_rollback c.args.self.now.bytes.now c.args.self.now.whole (λ e. omega arith))
