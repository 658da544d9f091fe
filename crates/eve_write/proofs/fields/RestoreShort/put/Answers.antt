use Rattle.std.proofs.Common.{subst}
use Rattle.eve_write.specs.Writes.{Puts}
use Rattle.eve_write.proofs.JoinedWrites.{Puts-then, app}
use Rattle.eve_write.proofs.fields.RestoreShort.put.Goals as goal

pub returns : goal.returns
returns c =
    let spelled = app c.row_bytes.ensures (app c.to_be_bytes.ensures c.cents_bytes.ensures) in
    subst (Puts c.args.texts.now.items c.put-3.new.frame.items) spelled
    (Puts-then c.put.ensures.puts (Puts-then c.put-2.ensures.puts c.put-3.ensures.puts))
