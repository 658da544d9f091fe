use Rattle.std.proofs.Common.{length, arith}
use Rattle.eve_grammar.specs.Spelling.{batches_at}
use Rattle.eve_votes.proofs.Places.{get_place}
use Rattle.eve_evidence_outcomes.proofs.DecidedViews.{batch_stands}
use Rattle.eve_evidence_outcomes.proofs.decisions.decisions_evidence.Goals as goal

pub unreachable-requires : goal.unreachable-requires
unreachable-requires c =
    let t = c.args.trace.now in
    let place = c.requires.stands in
    let there = batch_stands t _ place in
    c.loop-i.invariant (length place.before) place.item
    (omega (arith, there, c.loop-i-test.false, c.batch_count-i-end.ensures)) (get_place (batches_at t) place)
    place.holds
