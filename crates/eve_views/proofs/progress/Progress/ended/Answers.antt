use Rattle.eve_views.proofs.WalkSteps.{walking_end}
use Rattle.eve_views.proofs.progress.Progress.ended.Goals as goal

pub returns-then-bytes-self : goal.returns-then-bytes-self
returns-then-bytes-self c =
    let walked = c.args.self in
    let w = walking_end c.args.head c.args.bytes.now walked.at walked.reached.place walked.offsets.items
    walked.starts (c.requires.walked.walking c.requires.right) c.if-self.true c.if-bytes-self.true in
    record { frames = w.0; run = w.1; text = w.2; offsets = w.3; starts = w.4 }
