use Rattle.std.proofs.Common.{◌++◌, ap, ◌∙◌, map, subst}
use Rattle.std.specs.List.{flat_map, list_all, enumerate_from}
use Rattle.eve_grammar.specs.Limits.{is_customer, is_batch}
use Rattle.eve_grammar.specs.Spelling.{head_text, customer_text, batch_text}
use Rattle.eve_write.specs.Data.{customer, batch}
use Rattle.eve_write.specs.Writes.{Wrote, Stopped, Writes}
use Rattle.eve_write.proofs.JoinedWrites.{Stopped-before, Stopped-later, Writes-at_err, Writes-then, each_as}
use Rattle.eve_write.proofs.RightParts.{AreWritable-from_spelling}
use Rattle.eve_write.proofs.gathering.write_prefix.Goals as goal

pub returns-in_err-write_header : goal.returns-in_err-write_header
returns-in_err-write_header g c =
    let p = c.args.parts.now in
    let head = subst (Stopped {S = g.row.W.Denot} g.W.Sink.written g.W.Sink.failures c.args.out.now
    c.write_header.new.out) (ap (λ h. head_text h c.args.total) c.requires.head) c.in_err-write_header.ensures in
    Writes-at_err {S = g.row.W.Denot} g.W.Sink.written g.W.Sink.failures _ _ _ c.from_residual.result
    c.from_residual.ensures.0
    (Stopped-before {S = g.row.W.Denot}
    (flat_map customer_text (map customer p.customers.items) ++ flat_map batch_text
    (enumerate_from 1 (map batch p.batches.items))) head)

pub write_each-requires : goal.write_each-requires
write_each-requires g c =
    ap (list_all (λ x. is_customer (customer x))) c.as_slice.ensures.value
    ∙ (AreWritable-from_spelling c.args.parts.now c.requires.right).customers

pub returns-in_err-write_each : goal.returns-in_err-write_each
returns-in_err-write_each g c =
    let p = c.args.parts.now in
    let head = subst (Wrote {S = g.row.W.Denot} g.W.Sink.written g.W.Sink.failures c.args.out.now
    c.write_header.new.out) (ap (λ h. head_text h c.args.total) c.requires.head) c.in_ok-write_header.ensures in
    let same = each_as customer_text customer c.as_slice.result.now p.customers.items c.as_slice.ensures.value in
    let customers = subst (Stopped {S = g.row.W.Denot} g.W.Sink.written g.W.Sink.failures c.write_header.new.out
    c.write_each.new.out) same c.in_err-write_each.ensures in
    Writes-at_err {S = g.row.W.Denot} g.W.Sink.written g.W.Sink.failures _ _ _ c.from_residual-in_err-write_each.result
    c.from_residual-in_err-write_each.ensures.0
    (Stopped-later {S = g.row.W.Denot} head
    (Stopped-before {S = g.row.W.Denot} (flat_map batch_text (enumerate_from 1 (map batch p.batches.items)))
    customers))

pub write_batches-requires-clause-right : goal.write_batches-requires-clause-right
write_batches-requires-clause-right g c =
    ap (list_all (λ x. is_batch (batch x))) c.as_slice-2.ensures.value
    ∙ (AreWritable-from_spelling c.args.parts.now c.requires.right).batches

pub returns : goal.returns
returns g c =
    let p = c.args.parts.now in
    let head = subst (Wrote {S = g.row.W.Denot} g.W.Sink.written g.W.Sink.failures c.args.out.now
    c.write_header.new.out) (ap (λ h. head_text h c.args.total) c.requires.head) c.in_ok-write_header.ensures in
    let same = each_as customer_text customer c.as_slice.result.now p.customers.items c.as_slice.ensures.value in
    let customers = subst (Wrote {S = g.row.W.Denot} g.W.Sink.written g.W.Sink.failures c.write_header.new.out
    c.write_each.new.out) same c.in_ok-write_each.ensures in
    let batches = subst (Writes g.W.Sink.written g.W.Sink.failures c.write_each.new.out c.write_batches.new.out
    c.write_batches.result)
    (ap (λ xs. flat_map batch_text (enumerate_from 1 (map batch xs))) c.as_slice-2.ensures.value)
    c.write_batches.ensures in
    Writes-then {S = g.row.W.Denot} g.W.Sink.written g.W.Sink.failures _ _ _ _ _ c.write_batches.result head
    (Writes-then {S = g.row.W.Denot} g.W.Sink.written g.W.Sink.failures _ _ _ _ _ c.write_batches.result customers
    batches)
