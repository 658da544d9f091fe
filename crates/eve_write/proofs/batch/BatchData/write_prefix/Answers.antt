use Rattle.std.proofs.Common.{◌≡◌, length, subst, ap, ◌∙◌, arith}
use Rattle.byteorder.specs.Endian.{big_bytes}
use Rattle.eve_write.specs.Data.{batch}
use Rattle.eve_write.specs.Writes.{Writes}
use Rattle.eve_write.proofs.Lengths.{IsGrouped-from_test}
use Rattle.eve_write.proofs.JoinedWrites.{app, led}
use Rattle.eve_write.proofs.batch.BatchData.write_prefix.Goals as goal

pub overflow_cast-len : goal.overflow_cast-len
overflow_cast-len g c =
    let groups = (IsGrouped-from_test (batch c.args.self.now) c.requires).groups in
    omega (arith, groups, c.len.ensures, c.args.self.now.sizes.ok)

pub returns : goal.returns
returns g c =
    let sizes = c.args.self.now.sizes in
    let counted : c.len.result ≡ length sizes.items = omega (arith, c.len.ensures, sizes.ok) in
    let count = c.to_be_bytes-groups.ensures ∙ ap (big_bytes 2) counted in
    let body_len = c.to_be_bytes-body_len.ensures ∙ ap (big_bytes 4) c.body_len.ensures in
    subst (Writes g.W.Sink.written g.W.Sink.failures c.args.out.now c.send_texts.new.out c.send_texts.result)
    (led 2 (app body_len (app c.to_be_bytes-number.ensures count))) c.send_texts.ensures
