use Rattle.eve_frames.proofs.Rereading.{customer_again, batch_again}
use Rattle.eve_frames.proofs.laws.inputs_are_read_again.Goals as goal

pub returns : goal.returns
returns c = record { customers = customer_again; batches = batch_again }
