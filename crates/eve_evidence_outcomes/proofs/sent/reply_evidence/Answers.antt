use Rattle.std.proofs.Common.{length, arith}
use Rattle.eve_grammar.specs.Spelling.{sent_at}
use Rattle.eve_votes.proofs.Places.{get_place}
use Rattle.eve_evidence_outcomes.proofs.BatchRequests.{sent_stands}
use Rattle.eve_evidence_outcomes.proofs.sent.reply_evidence.Goals as goal

pub unreachable-requires : goal.unreachable-requires
unreachable-requires c =
    let t = c.args.trace.now in
    let place = c.requires.stands in
    let there = sent_stands t _ place in
    place.holds.1 (c.loop-i.invariant (length place.before) place.item
    (omega (arith, there, c.loop-i-test.false, c.sent_count-i-end.ensures)) (get_place (sent_at t) place) place.holds.0)
