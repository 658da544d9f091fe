use Rattle.std.proofs.Common.{subst, ap, ◌∙◌}
use Rattle.byteorder.specs.Endian.{big_bytes}
use Rattle.eve_write.specs.Writes.{Writes}
use Rattle.eve_write.proofs.JoinedWrites.{app, onto, led}
use Rattle.eve_write.proofs.commit.write_commit.Goals as goal

pub returns : goal.returns
returns g c =
    let body_len = c.to_be_bytes-body_len.ensures ∙ ap (big_bytes 4) c.body_len.ensures in
    subst (Writes g.W.Sink.written g.W.Sink.failures c.args.out.now c.send_texts.new.out c.send_texts.result)
    (led 19 (app body_len (app c.to_be_bytes-seq.ensures (onto c.args.commit.now.token c.to_be_bytes-view.ensures))))
    c.send_texts.ensures
