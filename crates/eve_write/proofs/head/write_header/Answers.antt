use Rattle.std.proofs.Common.{subst}
use Rattle.eve_grammar.specs.Spelling.{head_text}
use Rattle.eve_write.specs.Writes.{Writes}
use Rattle.eve_write.proofs.JoinedWrites.{app, led}
use Rattle.eve_write.proofs.head.write_header.Goals as goal

pub returns : goal.returns
unfolding head_text
returns g c =
    let counts = led 0 (led 0
    (led 0 (app c.to_be_bytes-customers.ensures (app c.to_be_bytes-batches.ensures c.to_be_bytes-total.ensures))))
    in
    let limits = app c.byte-replicas.ensures
    (app c.byte-verifiers.ensures
    (app c.byte-quorum.ensures (app c.byte-window.ensures (app c.byte-workers.ensures counts)))) in
    subst (Writes g.W.Sink.written g.W.Sink.failures c.args.out.now c.send_texts.new.out c.send_texts.result)
    (led 69 (led 86 (led 69 (led 83 (led 66 (led 75 (app c.to_be_bytes-version.ensures limits)))))))
    c.send_texts.ensures
