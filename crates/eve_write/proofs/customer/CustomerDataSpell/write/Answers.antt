use Rattle.std.proofs.Common.{subst, ap, ◌∙◌, length, ◌∷◌, [], ℕ}
use Rattle.byteorder.specs.Endian.{big_bytes}
use Rattle.eve_write.specs.Writes.{Writes}
use Rattle.eve_write.proofs.JoinedWrites.{app, led}
use Rattle.eve_write.proofs.customer.CustomerDataSpell.write.Goals as goal

pub returns : goal.returns
returns g c =
    let body_len = c.to_be_bytes-body_len.ensures ∙ ap (big_bytes 4) c.body_len.ensures in
    let name_len = c.name_len-name_len.ensures ∙ ap length c.as_slice-name.ensures.bytes in
    subst (Writes g.W.Sink.written g.W.Sink.failures c.args.out.now c.send_texts.new.out c.send_texts.result)
    (led 1 (app body_len (app (ap (λ (n : ℕ). n ∷ []) name_len)
    (app c.as_slice-name.ensures.bytes (app c.cents_bytes-saving.ensures c.cents_bytes-checking.ensures)))))
    c.send_texts.ensures
