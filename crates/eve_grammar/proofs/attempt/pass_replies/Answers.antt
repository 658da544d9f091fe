use Rattle.eve_grammar.specs.Readers.{reply_at}
use Rattle.eve_grammar.specs.inner.Scans.{rest_at}
use Rattle.eve_grammar.proofs.Loops.{rest_more}
use Rattle.eve_grammar.proofs.PassedParts.{all_passed, one_missing}
use Rattle.eve_grammar.proofs.attempt.pass_replies.Goals as goal

pub loop-preserved : goal.loop-preserved
loop-preserved c =
    rest_more reply_at c.args.count c.loop.counter c.loop.rest.now c.in-Some.more.now (c.in-Some._reply)
    (rest_at reply_at c.args.count c.args.bytes.now) c.loop-test.true c.in-Some.ensures c.loop.invariant

pub returns-in_default : goal.returns-in_default
returns-in_default c = one_missing reply_at c.args.count c.loop.counter c.args.bytes.now c.loop.rest.now
    c.loop-test.true c.in_default.ensures c.loop.invariant

pub returns : goal.returns
returns c = all_passed reply_at c.args.count c.loop.counter c.args.bytes.now c.loop.rest.now c.loop-test.false
    c.loop.invariant
