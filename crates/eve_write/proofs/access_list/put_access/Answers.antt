use Rattle.std.proofs.Common.{subst}
use Rattle.eve_write.specs.Writes.{Puts}
use Rattle.eve_write.proofs.JoinedWrites.{Puts-then}
use Rattle.eve_write.proofs.AccessLists.{noted_text}
use Rattle.eve_write.proofs.access_list.put_access.Goals as goal

pub returns : goal.returns
returns g c =
    subst (Puts c.args.frame.now.items c.put_few_entries.new.frame.items)
    (noted_text c.args.note.now c.args.entries.now c.requires.count)
    (Puts-then c.put_note.ensures.puts c.put_few_entries.ensures)
