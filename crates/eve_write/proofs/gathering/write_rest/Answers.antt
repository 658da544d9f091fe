use Rattle.std.proofs.Common.{◌++◌, ap, ◌∙◌, map, subst}
use Rattle.std.specs.List.{flat_map, list_all, enumerate_from}
use Rattle.eve_grammar.specs.Frames.{OfSent, End}
use Rattle.eve_grammar.specs.Spelling.{section_text, votes_text, frame_text}
use Rattle.eve_write.specs.Data.{section, votes, sent}
use Rattle.eve_write.specs.Passes.{fits_step}
use Rattle.eve_write.specs.Writes.{Wrote, Stopped}
use Rattle.eve_write.proofs.JoinedWrites.{Stopped-before, Stopped-later, Writes-at_err, Writes-then, each_as, all_fit}
use Rattle.eve_write.proofs.RightParts.{AreWritable-from_spelling}
use Rattle.eve_write.proofs.gathering.write_rest.Goals as goal

pub write_sections-requires-clause-right : goal.write_sections-requires-clause-right
write_sections-requires-clause-right g c =
    ap (list_all (λ x. list_all fits_step x.items)) c.as_slice.ensures.value
    ∙ (AreWritable-from_spelling c.args.parts.now c.requires).sections

pub returns-in_err-write_sections : goal.returns-in_err-write_sections
returns-in_err-write_sections g c =
    let p = c.args.parts.now in
    let sections = subst (Stopped {S = g.row.W.Denot} g.W.Sink.written g.W.Sink.failures c.args.out.now
    c.write_sections.new.out)
    (ap (λ xs. flat_map section_text (enumerate_from 0 (map section xs))) c.as_slice.ensures.value)
    c.in_err-write_sections.ensures in
    Writes-at_err {S = g.row.W.Denot} g.W.Sink.written g.W.Sink.failures _ _ _ c.from_residual.result
    c.from_residual.ensures.0
    (Stopped-before {S = g.row.W.Denot}
    (flat_map votes_text (enumerate_from 0 (map votes p.verifiers.items)) ++
    (flat_map (λ s. frame_text (OfSent s)) (map sent p.sent.items) ++ frame_text End)) sections)

pub returns-in_err-write_verifiers : goal.returns-in_err-write_verifiers
returns-in_err-write_verifiers g c =
    let p = c.args.parts.now in
    let sections = subst (Wrote {S = g.row.W.Denot} g.W.Sink.written g.W.Sink.failures c.args.out.now
    c.write_sections.new.out)
    (ap (λ xs. flat_map section_text (enumerate_from 0 (map section xs))) c.as_slice.ensures.value)
    c.in_ok-write_sections.ensures in
    let verifiers = subst (Stopped {S = g.row.W.Denot} g.W.Sink.written g.W.Sink.failures c.write_sections.new.out
    c.write_verifiers.new.out)
    (ap (λ xs. flat_map votes_text (enumerate_from 0 (map votes xs))) c.as_slice-2.ensures.value)
    c.in_err-write_verifiers.ensures in
    Writes-at_err {S = g.row.W.Denot} g.W.Sink.written g.W.Sink.failures _ _ _
    c.from_residual-in_err-write_verifiers.result c.from_residual-in_err-write_verifiers.ensures.0
    (Stopped-later {S = g.row.W.Denot} sections
    (Stopped-before {S = g.row.W.Denot}
    (flat_map (λ s. frame_text (OfSent s)) (map sent p.sent.items) ++ frame_text End) verifiers))

pub write_short-requires : goal.write_short-requires
write_short-requires g c = all_fit c.as_slice-3.result.now

pub returns-in_err-write_short : goal.returns-in_err-write_short
returns-in_err-write_short g c =
    let p = c.args.parts.now in
    let sections = subst (Wrote {S = g.row.W.Denot} g.W.Sink.written g.W.Sink.failures c.args.out.now
    c.write_sections.new.out)
    (ap (λ xs. flat_map section_text (enumerate_from 0 (map section xs))) c.as_slice.ensures.value)
    c.in_ok-write_sections.ensures in
    let verifiers = subst (Wrote {S = g.row.W.Denot} g.W.Sink.written g.W.Sink.failures c.write_sections.new.out
    c.write_verifiers.new.out)
    (ap (λ xs. flat_map votes_text (enumerate_from 0 (map votes xs))) c.as_slice-2.ensures.value)
    c.in_ok-write_verifiers.ensures in
    let replies = subst (Stopped {S = g.row.W.Denot} g.W.Sink.written g.W.Sink.failures c.write_verifiers.new.out
    c.write_short.new.out)
    (each_as (λ s. frame_text (OfSent s)) sent c.as_slice-3.result.now p.sent.items c.as_slice-3.ensures.value)
    c.in_err-write_short.ensures in
    Writes-at_err {S = g.row.W.Denot} g.W.Sink.written g.W.Sink.failures _ _ _ c.from_residual-in_err-write_short.result
    c.from_residual-in_err-write_short.ensures.0
    (Stopped-later {S = g.row.W.Denot} sections
    (Stopped-later {S = g.row.W.Denot} verifiers (Stopped-before {S = g.row.W.Denot} (frame_text End) replies)))

pub returns : goal.returns
returns g c =
    let p = c.args.parts.now in
    let sections = subst (Wrote {S = g.row.W.Denot} g.W.Sink.written g.W.Sink.failures c.args.out.now
    c.write_sections.new.out)
    (ap (λ xs. flat_map section_text (enumerate_from 0 (map section xs))) c.as_slice.ensures.value)
    c.in_ok-write_sections.ensures in
    let verifiers = subst (Wrote {S = g.row.W.Denot} g.W.Sink.written g.W.Sink.failures c.write_sections.new.out
    c.write_verifiers.new.out)
    (ap (λ xs. flat_map votes_text (enumerate_from 0 (map votes xs))) c.as_slice-2.ensures.value)
    c.in_ok-write_verifiers.ensures in
    let replies = subst (Wrote {S = g.row.W.Denot} g.W.Sink.written g.W.Sink.failures c.write_verifiers.new.out
    c.write_short.new.out)
    (each_as (λ s. frame_text (OfSent s)) sent c.as_slice-3.result.now p.sent.items c.as_slice-3.ensures.value)
    c.in_ok-write_short.ensures in
    Writes-then {S = g.row.W.Denot} g.W.Sink.written g.W.Sink.failures _ _ _ _ _ c.write_end.result sections
    (Writes-then {S = g.row.W.Denot} g.W.Sink.written g.W.Sink.failures _ _ _ _ _ c.write_end.result verifiers
    (Writes-then {S = g.row.W.Denot} g.W.Sink.written g.W.Sink.failures _ _ _ _ _ c.write_end.result replies
    c.write_end.ensures))
