use Rattle.std.proofs.Common.{map, arith, ap, subst, length, ◌≤◌}
use Rattle.std.specs.List.{flat_map, enumerate_from}
use Rattle.std.proofs.lemmas.List.{take_all, length-map}
use Rattle.std.proofs.lemmas.List.FromFn.{length-enumerate_from}
use Rattle.eve_grammar.specs.Spelling.{votes_text}
use Rattle.eve_write.specs.Data.{vote, votes}
use Rattle.eve_write.specs.Writes.{Wrote, Stopped}
use Rattle.eve_write.proofs.JoinedWrites.{Writes-at_err}
use Rattle.eve_write.proofs.NumberedItems.{Wrote-numbered, Stopped-numbered}
use Rattle.eve_write.proofs.sections.write_verifiers.Goals as goal

pub returns-in_err-write_votes : goal.returns-in_err-write_votes
returns-in_err-write_votes g c =
    Writes-at_err {S = g.row.W.Denot} g.W.Sink.written g.W.Sink.failures _ _ _ c.from_residual.result
    c.from_residual.ensures.0
    (Stopped-numbered {S = g.row.W.Denot} votes_text votes 0 c.loop-i.i c.loop-i.i c.args.verifiers.now
    c.index-verifiers-i.result c.loop-i-test.true c.index-verifiers-i.is (omega arith) c.loop-i.invariant
    (subst (Stopped {S = g.row.W.Denot} g.W.Sink.written g.W.Sink.failures c.loop-i.out c.write_votes.new.out)
    (ap (λ xs. votes_text (c.loop-i.i, map vote xs)) c.as_slice.ensures.value) c.in_err-write_votes.ensures))

pub loop-i-preserved : goal.loop-i-preserved
loop-i-preserved g c =
    Wrote-numbered {S = g.row.W.Denot} votes_text votes 0 c.loop-i.i c.loop-i.i c.args.verifiers.now
    c.index-verifiers-i.result c.loop-i-test.true c.index-verifiers-i.is (omega arith) c.loop-i.invariant
    (subst (Wrote {S = g.row.W.Denot} g.W.Sink.written g.W.Sink.failures c.loop-i.out c.write_votes.new.out)
    (ap (λ xs. votes_text (c.loop-i.i, map vote xs)) c.as_slice.ensures.value) c.in_ok-write_votes.ensures)

pub returns : goal.returns
returns g c =
    let all = enumerate_from 0 (map votes c.args.verifiers.now) in
    let done : length all ≤ c.loop-i.i =
    omega (
      arith,
      c.loop-i-test.false,
      length-enumerate_from 0 (map votes c.args.verifiers.now),
      length-map c.args.verifiers.now votes,
    ) in
    subst (Wrote {S = g.row.W.Denot} g.W.Sink.written g.W.Sink.failures c.args.out.now c.loop-i.out)
    (ap (flat_map votes_text) (take_all c.loop-i.i all done)) c.loop-i.invariant
