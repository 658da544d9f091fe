use Rattle.std.proofs.Common.{◌≤◌, arith}
use Rattle.eve_grammar.specs.inner.Scans.{rising_at}
use Rattle.eve_grammar.proofs.Loops.{rising_more}
use Rattle.eve_grammar.proofs.rollback.pass_rising.Goals as goal

pub loop-preserved : goal.loop-preserved
loop-preserved c =
    let row = c.number-row.ensures.number in
    let above : c.loop.least ≤ c.in-Some.restore.row = omega (arith, row, c.if-row-least.false) in
    let more = rising_more c.args.rows c.loop.least c.args.count c.loop.counter c.loop.rest.now c.in-Some.more.now
    c.in-Some.restore (rising_at c.args.rows 0 c.args.count c.args.bytes.now) c.loop-test.true
    c.in-Some.ensures above c.loop.invariant in
    rw row more
