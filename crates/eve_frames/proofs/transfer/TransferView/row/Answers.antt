use Rattle.std.proofs.Common.{◌+◌, ◌*◌, refl}
use Rattle.eve_grammar.specs.Readers.{versioned_at}
use Rattle.eve_frames.specs.Views.{transfer_in}
use Rattle.eve_frames.proofs.TransferPlaces.{transferred_rows, transfer_placed}
use Rattle.eve_frames.proofs.Lists.{stand_is, stand_some}
use Rattle.eve_frames.proofs.transfer.TransferView.row.Goals as goal

pub unreachable-requires : goal.unreachable-requires
unreachable-requires c =
    let bytes = c.args.self.now.bytes.now in
    stand_some 16 (transferred_rows bytes) 13 versioned_at bytes (transfer_in bytes).rows
    (transfer_placed bytes c.args.self.now.whole).rows c.args.i (13 + 16 * c.args.i) c.requires refl
    c.in-None.ensures

pub returns : goal.returns
returns c =
    let bytes = c.args.self.now.bytes.now in
    stand_is 16 (transferred_rows bytes) 13 versioned_at bytes (transfer_in bytes).rows
    (transfer_placed bytes c.args.self.now.whole).rows c.args.i (13 + 16 * c.args.i) c.requires refl
    c.in-Some.found c.in-Some.field-0-1.now c.in-Some.ensures
