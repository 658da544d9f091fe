use Rattle.std.proofs.Common.{refl, ◌∙◌}
use Rattle.eve_grammar.specs.Readers.{versioned_at}
use Rattle.eve_frames.specs.Views.{transfer_in}
use Rattle.eve_frames.proofs.TransferPlaces.{transferred_rows, transfer_placed}
use Rattle.eve_frames.proofs.Lists.{stand_passes}
use Rattle.eve_frames.proofs.transfer.TransferView.rows.Goals as goal

pub new-requires : goal.new-requires
new-requires c =
    let bytes = c.args.self.now.bytes.now in
    (stand_passes 16 (transferred_rows bytes) 13 versioned_at bytes (transfer_in bytes).rows
    (transfer_placed bytes c.args.self.now.whole).rows c.len-count.result 13 c.len-count.ensures refl).there

pub returns : goal.returns
returns c =
    let bytes = c.args.self.now.bytes.now in
    c.new.ensures ∙ (stand_passes 16 (transferred_rows bytes) 13 versioned_at bytes (transfer_in bytes).rows
    (transfer_placed bytes c.args.self.now.whole).rows c.len-count.result 13 c.len-count.ensures refl).list
