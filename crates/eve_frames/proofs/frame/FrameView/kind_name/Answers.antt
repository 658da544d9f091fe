use Rattle.std.proofs.Common.{ap, ◌∙◌}
use Rattle.eve_frames.specs.Kinds.{kind_name}
use Rattle.eve_frames.proofs.KindNames.{none_named}
use Rattle.eve_frames.proofs.frame.FrameView.kind_name.Goals as goal

pub returns-in-Some : goal.returns-in-Some
returns-in-Some c = c.name_of.ensures ∙ ap kind_name c.in-Some.ensures.kind

pub returns-in-None : goal.returns-in-None
returns-in-None c = none_named _ c.in-None.ensures.none
