use Rattle.std.proofs.Common.{map, arith, ap, subst, length, ◌≤◌}
use Rattle.std.specs.List.{flat_map, enumerate_from}
use Rattle.std.proofs.lemmas.List.{take_all, length-map}
use Rattle.std.proofs.lemmas.List.FromFn.{length-enumerate_from}
use Rattle.eve_grammar.specs.Spelling.{section_text}
use Rattle.eve_write.specs.Data.{step, section}
use Rattle.eve_write.specs.Writes.{Wrote, Stopped}
use Rattle.eve_write.proofs.JoinedWrites.{Writes-at_err}
use Rattle.eve_write.proofs.NumberedItems.{Wrote-numbered, Stopped-numbered}
use Rattle.eve_write.proofs.sections.write_sections.Goals as goal

pub returns-in_err-write_section : goal.returns-in_err-write_section
returns-in_err-write_section g c =
    Writes-at_err {S = g.row.W.Denot} g.W.Sink.written g.W.Sink.failures _ _ _ c.from_residual.result
    c.from_residual.ensures.0
    (Stopped-numbered {S = g.row.W.Denot} section_text section 0 c.loop-i.i c.loop-i.i c.args.sections.now
    c.index-sections-i.result c.loop-i-test.true c.index-sections-i.is (omega arith) c.loop-i.invariant
    (subst (Stopped {S = g.row.W.Denot} g.W.Sink.written g.W.Sink.failures c.loop-i.out c.write_section.new.out)
    (ap (λ xs. section_text (c.loop-i.i, map step xs)) c.as_slice.ensures.value) c.in_err-write_section.ensures))

pub loop-i-preserved : goal.loop-i-preserved
loop-i-preserved g c =
    Wrote-numbered {S = g.row.W.Denot} section_text section 0 c.loop-i.i c.loop-i.i c.args.sections.now
    c.index-sections-i.result c.loop-i-test.true c.index-sections-i.is (omega arith) c.loop-i.invariant
    (subst (Wrote {S = g.row.W.Denot} g.W.Sink.written g.W.Sink.failures c.loop-i.out c.write_section.new.out)
    (ap (λ xs. section_text (c.loop-i.i, map step xs)) c.as_slice.ensures.value) c.in_ok-write_section.ensures)

pub returns : goal.returns
returns g c =
    let all = enumerate_from 0 (map section c.args.sections.now) in
    let done : length all ≤ c.loop-i.i =
    omega (
      arith,
      c.loop-i-test.false,
      length-enumerate_from 0 (map section c.args.sections.now),
      length-map c.args.sections.now section,
    ) in
    subst (Wrote {S = g.row.W.Denot} g.W.Sink.written g.W.Sink.failures c.args.out.now c.loop-i.out)
    (ap (flat_map section_text) (take_all c.loop-i.i all done)) c.loop-i.invariant
