use Rattle.eve_views.proofs.FrameOffsets.{all_from}
use Rattle.eve_views.proofs.frames.Frames.new.Goals as goal

pub returns : goal.returns
returns c = all_from c.args.trace.now
