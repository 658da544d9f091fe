use Rattle.std.proofs.Common.{arith}
use Rattle.eve_evidence_outcomes.proofs.RepliesGiven.{none_more, none_of_all}
use Rattle.eve_evidence_outcomes.proofs.given.given_by.Goals as goal

pub loop-i-init : goal.loop-i-init
loop-i-init c = λ k g lt gave. absurd (omega arith)

pub loop-i-preserved : goal.loop-i-preserved
loop-i-preserved c =
    none_more c.args.history.now c.args.seq c.args.index c.args.reply c.loop-i.i c.loop-i.invariant
    c.in_default.ensures.none

pub returns-in-Some : goal.returns-in-Some
returns-in-Some c = (c.loop-i.i, c.in-Some.ensures.given, c.loop-i.invariant)

pub returns : goal.returns
returns c =
    none_of_all c.args.history.now c.args.seq c.args.index c.args.reply c.loop-i.i
    (omega (arith, c.loop-i-test.false, c.attempts-i-end.ensures.attempts)) c.loop-i.invariant
