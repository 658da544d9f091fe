use Rattle.std.proofs.Common.{subst, ap}
use Rattle.std.specs.List.{flat_map}
use Rattle.eve_grammar.specs.Spelling.{versioned_text}
use Rattle.eve_write.specs.Writes.{Writes}
use Rattle.eve_write.proofs.JoinedWrites.{Stopped-before, Writes-at_err, Writes-then, all_fit}
use Rattle.eve_write.proofs.transfer.write_transfer.Goals as goal

pub returns-in_err-write_prefix : goal.returns-in_err-write_prefix
returns-in_err-write_prefix g c =
    Writes-at_err {S = g.row.W.Denot} g.W.Sink.written g.W.Sink.failures _ _ _ c.from_residual.result
    c.from_residual.ensures.0
    (Stopped-before {S = g.row.W.Denot} (flat_map versioned_text c.args.transfer.now.rows.items)
    c.in_err-write_prefix.ensures)

pub write_short-requires : goal.write_short-requires
write_short-requires g c = all_fit c.as_slice.result.now

pub returns : goal.returns
returns g c =
    let same = ap (flat_map versioned_text) c.as_slice.ensures.value in
    let rows = subst (Writes g.W.Sink.written g.W.Sink.failures c.write_prefix.new.out c.write_short.new.out
    c.write_short.result) same c.write_short.ensures in
    Writes-then {S = g.row.W.Denot} g.W.Sink.written g.W.Sink.failures _ _ _ _ _ c.write_short.result
    c.in_ok-write_prefix.ensures rows
