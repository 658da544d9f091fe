use Rattle.eve_recorder.proofs.QueueSteps.{notes, learns_some}
use Rattle.eve_recorder.proofs.recorder.push.Goals as goal

pub push_as-requires-clause-rule : goal.push_as-requires-clause-rule
push_as-requires-clause-rule g c = (notes _ _ _ _ c.requires.stands c.requires.next, learns_some _ _)
