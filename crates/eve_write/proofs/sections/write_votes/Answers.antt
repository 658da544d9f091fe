use Rattle.std.proofs.Common.{sym, ◌∙◌, map, subst}
use Rattle.std.specs.List.{flat_map}
use Rattle.std.proofs.lemmas.List.Folds.{flat_map-map}
use Rattle.eve_grammar.specs.Frames.{OfVote}
use Rattle.eve_grammar.specs.Spelling.{frame_text}
use Rattle.eve_write.specs.Data.{vote}
use Rattle.eve_write.specs.Writes.{Writes}
use Rattle.eve_write.proofs.JoinedWrites.{Stopped-before, Writes-at_err, Writes-then}
use Rattle.eve_write.proofs.sections.write_votes.Goals as goal

pub returns-in_err-write_verifier : goal.returns-in_err-write_verifier
returns-in_err-write_verifier g c =
    Writes-at_err {S = g.row.W.Denot} g.W.Sink.written g.W.Sink.failures _ _ _ c.from_residual.result
    c.from_residual.ensures.0
    (Stopped-before {S = g.row.W.Denot} (flat_map frame_text (map OfVote (map vote c.args.votes.now)))
    c.in_err-write_verifier.ensures)

pub returns : goal.returns
returns g c =
    let votes = c.args.votes.now in
    let same = sym (flat_map-map frame_text OfVote (map vote votes)
    ∙ flat_map-map (λ w. frame_text (OfVote w)) vote votes) in
    let each = subst (Writes g.W.Sink.written g.W.Sink.failures c.write_verifier.new.out c.write_each.new.out
    c.write_each.result) same c.write_each.ensures in
    Writes-then {S = g.row.W.Denot} g.W.Sink.written g.W.Sink.failures _ _ _ _ _ c.write_each.result
    c.in_ok-write_verifier.ensures each
