use Rattle.eve_frames.proofs.TransferPlaces.{transfer_rows}
use Rattle.eve_frames.proofs.laws.transfers_tell_their_rows.Goals as goal

pub returns : goal.returns
returns c = transfer_rows
