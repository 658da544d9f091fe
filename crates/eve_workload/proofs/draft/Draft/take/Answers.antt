use Rattle.std.proofs.Common.{sym, subst, ap}
use Rattle.eve_workload.specs.inner.Decoded.{line_decoded}
use Rattle.eve_workload.specs.inner.Drafts.{Takes}
use Rattle.eve_workload.proofs.draft.Draft.take.Goals as goal

pub returns-in-Head-clause-accepted : goal.returns-in-Head-clause-accepted
returns-in-Head-clause-accepted c = λ before keeps.
    subst (λ line. Takes c.take_head.new.self before line c.take_head.result) (sym (ap line_decoded c.in-Head.is))
    (c.take_head.ensures.accepted before keeps)
