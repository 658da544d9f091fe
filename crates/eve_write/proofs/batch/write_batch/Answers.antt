use Rattle.std.proofs.Common.{◌++◌, ap, map, subst}
use Rattle.std.specs.List.{flat_map}
use Rattle.byteorder.specs.Endian.{big_bytes}
use Rattle.eve_grammar.specs.Limits.{is_asked}
use Rattle.eve_grammar.specs.Spelling.{asked_text}
use Rattle.eve_write.specs.Data.{asked, batch}
use Rattle.eve_write.specs.Writes.{Wrote, Stopped, Writes}
use Rattle.eve_write.proofs.Lengths.{IsGrouped-from_test, all_as}
use Rattle.eve_write.proofs.JoinedWrites.{Stopped-before, Stopped-later, Writes-at_err, Writes-then, all_fit, each_as}
use Rattle.eve_write.proofs.batch.write_batch.Goals as goal

pub returns-in_err-write_prefix : goal.returns-in_err-write_prefix
returns-in_err-write_prefix g c =
    let b = c.args.batch.now in
    Writes-at_err {S = g.row.W.Denot} g.W.Sink.written g.W.Sink.failures _ _ _ c.from_residual.result
    c.from_residual.ensures.0
    (Stopped-before {S = g.row.W.Denot}
    (flat_map (big_bytes 2) b.sizes.items ++ flat_map asked_text (map asked b.requests.items))
    c.in_err-write_prefix.ensures)

pub write_each-requires : goal.write_each-requires
write_each-requires g c = all_fit c.as_slice.result.now

pub returns-in_err-write_each : goal.returns-in_err-write_each
returns-in_err-write_each g c =
    let same = ap (flat_map (big_bytes 2)) c.as_slice.ensures.value in
    let stopped = subst (Stopped {S = g.row.W.Denot} g.W.Sink.written g.W.Sink.failures c.write_prefix.new.out
    c.write_each.new.out) same c.in_err-write_each.ensures in
    Writes-at_err {S = g.row.W.Denot} g.W.Sink.written g.W.Sink.failures _ _ _ c.from_residual-in_err-write_each.result
    c.from_residual-in_err-write_each.ensures.0
    (Stopped-later {S = g.row.W.Denot} c.in_ok-write_prefix.ensures
    (Stopped-before {S = g.row.W.Denot} (flat_map asked_text (map asked c.args.batch.now.requests.items)) stopped))

pub write_short-requires : goal.write_short-requires
write_short-requires g c =
    all_as is_asked asked c.as_slice-2.result.now c.args.batch.now.requests.items c.as_slice-2.ensures.value
    (IsGrouped-from_test (batch c.args.batch.now) c.requires).right

pub returns : goal.returns
returns g c =
    let same = ap (flat_map (big_bytes 2)) c.as_slice.ensures.value in
    let sizes = subst (Wrote {S = g.row.W.Denot} g.W.Sink.written g.W.Sink.failures c.write_prefix.new.out
    c.write_each.new.out) same c.in_ok-write_each.ensures in
    let asks = each_as asked_text asked c.as_slice-2.result.now c.args.batch.now.requests.items
    c.as_slice-2.ensures.value in
    let requests = subst (Writes g.W.Sink.written g.W.Sink.failures c.write_each.new.out c.write_short.new.out
    c.write_short.result) asks c.write_short.ensures in
    Writes-then {S = g.row.W.Denot} g.W.Sink.written g.W.Sink.failures _ _ _ _ _ c.write_short.result
    c.in_ok-write_prefix.ensures
    (Writes-then {S = g.row.W.Denot} g.W.Sink.written g.W.Sink.failures _ _ _ _ _ c.write_short.result sizes
    requests)
