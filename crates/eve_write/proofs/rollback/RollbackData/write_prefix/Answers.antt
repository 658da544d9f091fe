use Rattle.std.proofs.Common.{◌≡◌, length, subst, ap, ◌∙◌, arith}
use Rattle.byteorder.specs.Endian.{big_bytes}
use Rattle.eve_write.specs.Writes.{Writes}
use Rattle.eve_write.proofs.JoinedWrites.{app, led}
use Rattle.eve_write.proofs.rollback.RollbackData.write_prefix.Goals as goal

pub returns : goal.returns
returns g c =
    let restores = c.args.self.now.restores in
    let counted : c.len.result ≡ length restores.items =
    omega (arith, c.len.ensures, restores.ok) in
    let count = c.to_be_bytes-count.ensures ∙ ap (big_bytes 4) counted in
    let body_len = c.to_be_bytes-body_len.ensures ∙ ap (big_bytes 4) c.body_len.ensures in
    subst (Writes g.W.Sink.written g.W.Sink.failures c.args.out.now c.send_texts.new.out c.send_texts.result)
    (led 20 (app body_len (app c.to_be_bytes-to.ensures (app c.to_be_bytes-view.ensures count)))) c.send_texts.ensures
