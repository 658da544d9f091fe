use Rattle.std.proofs.Common.{subst}
use Rattle.eve_write.specs.Writes.{Puts}
use Rattle.eve_write.proofs.JoinedWrites.{Puts-then, app}
use Rattle.eve_write.proofs.fields.put_entry.Goals as goal

pub returns-clause-puts : goal.returns-clause-puts
returns-clause-puts g c =
    let spelled = app c.row_bytes.ensures
    (app c.kind_byte.ensures (app c.to_be_bytes.ensures (app c.cents_bytes.ensures c.cents_bytes-2.ensures))) in
    subst (Puts c.args.frame.now.items c.put-5.new.frame.items) spelled
    (Puts-then c.put.ensures.puts
    (Puts-then c.put-2.ensures.puts
    (Puts-then c.put-3.ensures.puts (Puts-then c.put-4.ensures.puts c.put-5.ensures.puts))))
