use Rattle.std.proofs.Common.{◌≡◌, ◌+◌, max, subst, arith}
use Rattle.eve_evidence_outcomes.specs.Polls.{IsSomeCount}
use Rattle.eve_evidence_outcomes.proofs.Backers.{IsMostOf, reached_more, most_more, most_is}
use Rattle.eve_evidence_outcomes.proofs.polls.most_backers.Goals as goal

pub loop-v-preserved : goal.loop-v-preserved
loop-v-preserved c =
    let t = c.args.trace.now in
    let a = c.loop-v.most in
    let b = c.with_verifier-count.result in
    let is : max a b ≡ c.max-most.result = omega (arith, c.max-most.ensures) in
    record {
      reached = subst (IsSomeCount t c.args.n c.args.view) is
          (reached_more t c.args.n c.args.view a b c.loop-v.invariant.reached c.with_verifier-count.ensures.reached);
      all = subst (IsMostOf t c.args.n c.args.view (c.loop-v.v + 1)) is
          (most_more t c.args.n c.args.view c.loop-v.v a b c.loop-v.invariant.all c.with_verifier-count.ensures.own);
    }

pub returns : goal.returns
returns c =
    most_is c.args.trace.now c.args.n c.args.view c.loop-v.v c.loop-v.most
    (omega (arith, c.loop-v-test.false, c.verifier_count-v-end.ensures)) c.loop-v.invariant.reached
    c.loop-v.invariant.all
