use Rattle.eve_frames.proofs.Rereading.{attempt_again, access_again, commit_again, rollback_again}
use Rattle.eve_frames.proofs.Rereading.{transfer_again}
use Rattle.eve_frames.proofs.laws.steps_are_read_again.Goals as goal

pub returns : goal.returns
returns c = record {
  attempts = attempt_again;
  accesses = access_again;
  commits = commit_again;
  rollbacks = rollback_again;
  transfers = transfer_again;
}
