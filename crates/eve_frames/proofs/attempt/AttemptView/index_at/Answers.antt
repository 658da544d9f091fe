use Rattle.std.proofs.Common.{ℕ, ◌+◌, ◌*◌, Some, refl, sym, ap, ◌∙◌}
use Rattle.eve_frames.specs.Views.{attempt_in}
use Rattle.eve_frames.proofs.AttemptPlaces.{requests_of, attempt_placed}
use Rattle.eve_frames.proofs.Lists.{stand_number}
use Rattle.eve_frames.proofs.attempt.AttemptView.index_at.Goals as goal

pub returns : goal.returns
returns c =
    let bytes = c.args.self.now.bytes.now in
    stand_number 2 (requests_of bytes) 16 bytes (attempt_in bytes).certificate
    (attempt_placed bytes c.args.self.now.whole).certificate c.args.place (16 + 2 * c.args.place) c.requires refl
    ∙ ap (λ (k : ℕ). Some k) (sym c.read_u16.ensures)
