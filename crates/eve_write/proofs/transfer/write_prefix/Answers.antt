use Rattle.std.proofs.Common.{ap, subst, ◌∙◌}
use Rattle.byteorder.specs.Endian.{big_bytes}
use Rattle.eve_write.specs.Writes.{Writes}
use Rattle.eve_write.proofs.JoinedWrites.{app, led}
use Rattle.eve_write.proofs.transfer.write_prefix.Goals as goal

pub returns : goal.returns
returns g c =
    let body_len = c.to_be_bytes-body_len.ensures ∙ ap (big_bytes 4) c.body_len.ensures in
    subst (Writes g.W.Sink.written g.W.Sink.failures c.args.out.now c.send_texts.new.out c.send_texts.result)
    (led 21 (app body_len (app c.to_be_bytes-seq.ensures c.to_be_bytes-view.ensures))) c.send_texts.ensures
