use Rattle.std.proofs.Common.{sym, ◌∙◌, map, subst}
use Rattle.std.specs.List.{flat_map}
use Rattle.std.proofs.lemmas.List.Folds.{flat_map-map}
use Rattle.eve_grammar.specs.Frames.{step_frames}
use Rattle.eve_grammar.specs.Spelling.{frame_text, step_text}
use Rattle.eve_write.specs.Data.{step}
use Rattle.eve_write.specs.Writes.{Writes}
use Rattle.eve_write.proofs.JoinedWrites.{Stopped-before, Writes-at_err, Writes-then, flat_map-flat_map}
use Rattle.eve_write.proofs.sections.write_section.Goals as goal

pub returns-in_err-write_replica : goal.returns-in_err-write_replica
returns-in_err-write_replica g c =
    Writes-at_err {S = g.row.W.Denot} g.W.Sink.written g.W.Sink.failures _ _ _ c.from_residual.result
    c.from_residual.ensures.0
    (Stopped-before {S = g.row.W.Denot} (flat_map frame_text (flat_map step_frames (map step c.args.steps.now)))
    c.in_err-write_replica.ensures)

pub returns : goal.returns
returns g c =
    let steps = c.args.steps.now in
    let same = sym (flat_map-flat_map frame_text step_frames (map step steps) ∙ flat_map-map step_text step steps) in
    let each = subst (Writes g.W.Sink.written g.W.Sink.failures c.write_replica.new.out c.write_each.new.out
    c.write_each.result) same c.write_each.ensures in
    Writes-then {S = g.row.W.Denot} g.W.Sink.written g.W.Sink.failures _ _ _ _ _ c.write_each.result
    c.in_ok-write_replica.ensures each
