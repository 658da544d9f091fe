use Rattle.eve_frames.proofs.FrameLimits.{customer_fits, batch_fits, attempt_fits, access_fits, commit_fits}
use Rattle.eve_frames.proofs.FrameLimits.{rollback_fits}
use Rattle.eve_frames.proofs.FrameLimits.{transfer_fits, vote_fits, sent_fits}
use Rattle.eve_frames.proofs.laws.frames_say_what_fits.Goals as goal

pub returns : goal.returns
returns c = record {
  customers = customer_fits;
  batches = batch_fits;
  attempts = attempt_fits;
  accesses = access_fits;
  commits = commit_fits;
  rollbacks = rollback_fits;
  transfers = transfer_fits;
  votes = vote_fits;
  sent = sent_fits;
}
