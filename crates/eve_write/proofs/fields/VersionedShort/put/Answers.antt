use Rattle.std.proofs.Common.{subst}
use Rattle.eve_write.specs.Writes.{Puts}
use Rattle.eve_write.proofs.JoinedWrites.{Puts-then, app}
use Rattle.eve_write.proofs.fields.VersionedShort.put.Goals as goal

pub returns : goal.returns
returns c =
    subst (Puts c.args.texts.now.items c.put-2.new.frame.items) (app c.to_be_bytes.ensures c.cents_bytes.ensures)
    (Puts-then c.put.ensures.puts c.put-2.ensures.puts)
