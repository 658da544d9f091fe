use Rattle.std.proofs.Common.{length, refl, arith}
use Rattle.std.proofs.lemmas.Option.{slice_get_read}
use Rattle.eve_history.proofs.RightSections.{right_more, all_right}
use Rattle.eve_history.proofs.history.recall_all_right.Goals as goal

pub loop-history-preserved : goal.loop-history-preserved
loop-history-preserved c =
    let hs = c.args.histories.now in
    let i = c.loop-history.history-index in
    right_more hs i c.history-item.result c.loop-history.invariant
    (slice_get_read hs (length hs) i c.history-item.result refl c.loop-history-test.true c.history-item.is)
    c.recall_right.ensures.right

pub returns : goal.returns
returns c = λ t is. all_right t c.args.histories.now c.loop-history.history-index
    (omega (arith, c.loop-history-test.false)) c.loop-history.invariant is
