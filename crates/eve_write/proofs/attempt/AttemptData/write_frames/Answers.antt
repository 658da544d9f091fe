use Rattle.std.proofs.Common.{sym, map, subst}
use Rattle.std.specs.List.{flat_map}
use Rattle.std.proofs.lemmas.List.Folds.{flat_map-map}
use Rattle.eve_grammar.specs.Frames.{OfAccess}
use Rattle.eve_grammar.specs.Spelling.{frame_text}
use Rattle.eve_write.specs.Writes.{Writes}
use Rattle.eve_write.proofs.JoinedWrites.{Stopped-before, Writes-at_err, Writes-then}
use Rattle.eve_write.proofs.attempt.AttemptData.write_frames.Goals as goal

pub returns-in_err-write_attempt : goal.returns-in_err-write_attempt
returns-in_err-write_attempt g c =
    Writes-at_err {S = g.row.W.Denot} g.W.Sink.written g.W.Sink.failures _ _ _ c.from_residual.result
    c.from_residual.ensures.0
    (Stopped-before {S = g.row.W.Denot} (flat_map frame_text (map OfAccess c.args.self.now.accesses))
    c.in_err-write_attempt.ensures)

pub returns : goal.returns
returns g c =
    let each = subst (Writes g.W.Sink.written g.W.Sink.failures c.write_attempt.new.out c.write_accesses.new.out
    c.write_accesses.result) (sym (flat_map-map frame_text OfAccess c.args.self.now.accesses))
    c.write_accesses.ensures in
    Writes-then {S = g.row.W.Denot} g.W.Sink.written g.W.Sink.failures _ _ _ _ _ c.write_accesses.result
    c.in_ok-write_attempt.ensures each
