use Rattle.std.proofs.Common.{sym, ◌∙◌}
use Rattle.eve_frames.proofs.AccessPlaces.{access_place}
use Rattle.eve_frames.proofs.access.AccessView.place.Goals as goal

pub returns : goal.returns
returns c = c.read_u16.ensures ∙ sym (access_place c.args.self.now.bytes.now c.args.self.now.whole)
