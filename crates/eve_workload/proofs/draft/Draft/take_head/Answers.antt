use Rattle.eve_workload.proofs.DraftLines.{head_accepted}
use Rattle.eve_workload.proofs.draft.Draft.take_head.Goals as goal

pub returns-clause-accepted : goal.returns-clause-accepted
returns-clause-accepted c = λ before keeps.
    let follows = c.takes_head.ensures before c.args.deployment keeps.last in
    head_accepted c.args.self.now c.args.deployment before c.requires (cc) keeps
