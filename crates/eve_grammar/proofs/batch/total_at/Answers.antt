use Rattle.std.proofs.Common.{arith, rules}
use Rattle.eve_grammar.specs.inner.Scans.{total_at}
use Rattle.eve_grammar.proofs.Loops.{total_more}
use Rattle.eve_grammar.proofs.batch.total_at.Goals as goal

pub loop-preserved : goal.loop-preserved
loop-preserved c = (
  total_more c.args.count c.loop.counter c.loop.total c.in-Some.size c.loop.rest.now c.in-Some.more.now
      (total_at c.args.count c.args.bytes.now) c.loop-test.true c.in-Some.ensures (omega arith) c.loop.invariant.0,
  search rules,
)
