use Rattle.std.proofs.Common.{◌++◌, ap, ◌∙◌, subst}
use Rattle.eve_write.specs.Passes.{prefix_text, rest_text}
use Rattle.eve_write.specs.Writes.{Stopped, Writes}
use Rattle.eve_write.proofs.JoinedWrites.{Stopped-before, Writes-at_err, Writes-then}
use Rattle.eve_write.proofs.Totals.{spelling_is}
use Rattle.eve_write.proofs.gathering.write_parts.Goals as goal

pub returns-in_err-write_prefix : goal.returns-in_err-write_prefix
returns-in_err-write_prefix g c =
    let p = c.args.parts.now in
    let same = ap (λ n. prefix_text p n ++ rest_text p) c.requires.total ∙ spelling_is p in
    Writes-at_err {S = g.row.W.Denot} g.W.Sink.written g.W.Sink.failures _ _ _ c.from_residual.result
    c.from_residual.ensures.0
    (subst (Stopped {S = g.row.W.Denot} g.W.Sink.written g.W.Sink.failures c.args.out.now c.write_prefix.new.out) same
    (Stopped-before {S = g.row.W.Denot} (rest_text p) c.in_err-write_prefix.ensures))

pub returns : goal.returns
returns g c =
    let p = c.args.parts.now in
    let same = ap (λ n. prefix_text p n ++ rest_text p) c.requires.total ∙ spelling_is p in
    subst (Writes g.W.Sink.written g.W.Sink.failures c.args.out.now c.write_rest.new.out c.write_rest.result) same
    (Writes-then {S = g.row.W.Denot} g.W.Sink.written g.W.Sink.failures _ _ _ _ _ c.write_rest.result
    c.in_ok-write_prefix.ensures c.write_rest.ensures)
