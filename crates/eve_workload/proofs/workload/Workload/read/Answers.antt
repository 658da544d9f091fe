use Rattle.std.proofs.Common.{sym, ◌∙◌}
use Rattle.eve_workload.proofs.workload.Workload.read.Goals as goal

pub whole-requires : goal.whole-requires
whole-requires c = let all = c.in_ok-draft.ensures.lines in (all.before, all.keeps, all.ends)

pub returns-clause-read : goal.returns-clause-read
returns-clause-read c =
    let all = c.in_ok-draft.ensures.lines in
    sym all.text_is ∙ c.whole.ensures.text all.before all.keeps all.ends
