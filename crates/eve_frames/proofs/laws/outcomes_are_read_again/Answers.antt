use Rattle.eve_frames.proofs.Rereading.{vote_again, sent_again}
use Rattle.eve_frames.proofs.laws.outcomes_are_read_again.Goals as goal

pub returns : goal.returns
returns c = record { votes = vote_again; sent = sent_again }
