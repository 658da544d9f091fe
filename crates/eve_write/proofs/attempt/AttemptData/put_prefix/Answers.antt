use Rattle.std.proofs.Common.{◌≡◌, length, ap, ◌∙◌, subst, arith}
use Rattle.byteorder.specs.Endian.{big_bytes}
use Rattle.eve_write.specs.Writes.{Puts}
use Rattle.eve_write.proofs.JoinedWrites.{Puts-then, app}
use Rattle.eve_write.proofs.attempt.AttemptData.put_prefix.Goals as goal

pub returns-clause-puts : goal.returns-clause-puts
returns-clause-puts g c =
    let indexes = c.args.self.now.certificate in
    let counted : c.len.result ≡ length indexes.items = omega (arith, c.len.ensures, indexes.ok) in
    let body_len = c.to_be_bytes.ensures ∙ ap (big_bytes 4) c.body_len.ensures in
    let count = c.to_be_bytes-4.ensures ∙ ap (big_bytes 2) counted in
    let spelled = app c.byte.ensures
    (app body_len (app c.to_be_bytes-2.ensures (app c.to_be_bytes-3.ensures (app c.mode_byte.ensures count)))) in
    subst (Puts c.args.frame.now.items c.put-6.new.frame.items) spelled
    (Puts-then c.put.ensures.puts
    (Puts-then c.put-2.ensures.puts
    (Puts-then c.put-3.ensures.puts
    (Puts-then c.put-4.ensures.puts (Puts-then c.put-5.ensures.puts c.put-6.ensures.puts)))))
