use Rattle.std.proofs.Common.{◌≡◌, ◌+◌, ◌*◌, ap, ◌∙◌, subst, arith}
use Rattle.byteorder.specs.Endian.{big_bytes}
use Rattle.eve_write.specs.Writes.{Puts}
use Rattle.eve_write.proofs.JoinedWrites.{Puts-then, app}
use Rattle.eve_write.proofs.access_list.put_note.Goals as goal

pub returns-clause-puts : goal.returns-clause-puts
returns-clause-puts g c =
    let len : 6 + 29 * c.from.result ≡ 6 + 29 * c.args.note.now.count = omega (arith, c.from.ensures) in
    let body_len = c.to_be_bytes.ensures ∙ ap (big_bytes 4) len in
    let spelled = app c.byte.ensures
    (app body_len (app c.byte-2.ensures
    (app c.to_be_bytes-2.ensures (app c.to_be_bytes-3.ensures c.byte-3.ensures)))) in
    subst (Puts c.args.frame.now.items c.put-6.new.frame.items) spelled
    (Puts-then c.put.ensures.puts
    (Puts-then c.put-2.ensures.puts
    (Puts-then c.put-3.ensures.puts
    (Puts-then c.put-4.ensures.puts (Puts-then c.put-5.ensures.puts c.put-6.ensures.puts)))))
