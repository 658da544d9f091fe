use Rattle.std.proofs.Common.{arith}
use Rattle.eve_frames.specs.Decoded.{attempt_decoded}
use Rattle.eve_evidence_outcomes.proofs.Differences.{same_lists, same_next, replies_few}
use Rattle.eve_evidence_outcomes.proofs.outcome.first_reply_apart.Goals as goal

pub loop-index-preserved : goal.loop-index-preserved
loop-index-preserved c =
    same_next (attempt_decoded c.args.own.now).replies (attempt_decoded c.args.its.now).replies c.loop-index.index
    c.loop-index.invariant (c.have_same_reply.ensures.0 c.if-not-have_same_reply.false)

pub returns-clause-none : goal.returns-clause-none
returns-clause-none c =
    same_lists (attempt_decoded c.args.own.now).replies (attempt_decoded c.args.its.now).replies c.loop-index.index
    (omega (arith, replies_few c.args.own.now, c.loop-index-test.false))
    (omega (arith, replies_few c.args.its.now, c.loop-index-test.false)) c.loop-index.invariant
