use Rattle.std.proofs.Common.{ℕ, ◌+◌, ◌*◌, Some, refl, sym, ap, ◌∙◌}
use Rattle.eve_frames.specs.Views.{batch_in}
use Rattle.eve_frames.proofs.BatchPlaces.{groups_of, batch_placed}
use Rattle.eve_frames.proofs.Lists.{stand_number}
use Rattle.eve_frames.proofs.batch.BatchView.group.Goals as goal

pub returns : goal.returns
returns c =
    let bytes = c.args.self.now.bytes.now in
    stand_number 2 (groups_of bytes) 11 bytes (batch_in bytes).1.sizes (batch_placed bytes c.args.self.now.whole).sizes
    c.args.i (11 + 2 * c.args.i) c.requires refl
    ∙ ap (λ (k : ℕ). Some k) (sym c.read_u16.ensures)
