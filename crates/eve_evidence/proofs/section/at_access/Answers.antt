use Rattle.std.proofs.Common.{sym, subst}
use Rattle.std.specs.Prelude.{IfNone}
use Rattle.eve_views.specs.declared.fault.Code.{Code}
use Rattle.eve_evidence.specs.inner.Places.{HasNoneWrong}
use Rattle.eve_evidence.proofs.section.at_access.Goals as goal

pub returns-in-Version-clause-none : goal.returns-in-Version-clause-none
returns-in-Version-clause-none c =
    let s = c.args.site in
    subst (λ (k : Code). IfNone c.chain_at.result (HasNoneWrong k s.trace.now s.course.now s.attempt.now
    s.accesses.now c.args.i)) (sym c.in-Version.is) c.chain_at.ensures.none

pub returns-in-Value-clause-none : goal.returns-in-Value-clause-none
returns-in-Value-clause-none c =
    let s = c.args.site in
    subst (λ (k : Code). IfNone c.chain_at-in-Value.result (HasNoneWrong k s.trace.now s.course.now
    s.attempt.now s.accesses.now c.args.i)) (sym c.in-Value.is) c.chain_at-in-Value.ensures.none
