use Rattle.std.proofs.Common.{◌+◌, sym, subst, arith}
use Rattle.eve_chains.specs.Records.{records_between, IsLeastMismatch}
use Rattle.eve_chains.proofs.Stretches.{one_judged}
use Rattle.eve_chains.proofs.records.mismatch_in.Goals as goal

pub loop-i-preserved : goal.loop-i-preserved
loop-i-preserved c =
    let t = c.args.section.trace.now in
    let h = c.args.section.history.now in
    let i = c.loop-i.i in
    let from = c.args.stretch.from in
    subst (IsLeastMismatch c.args.names.now.items (records_between t h from (i + 1))) (sym c.lesser-mismatch.ensures)
    (one_judged t h c.args.names.now.items from i c.loop-i.mismatch c.in_ok-found.found (omega arith)
    (omega (arith, c.loop-i-test.true)) (omega (arith, c.loop-i-test.true)) c.loop-i.invariant c.in_ok-found.ensures)
