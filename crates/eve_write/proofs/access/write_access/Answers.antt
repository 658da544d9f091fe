use Rattle.std.proofs.Common.{sym, subst, ◌∙◌}
use Rattle.eve_write.specs.Writes.{Writes}
use Rattle.eve_write.specs.declared.access_list.AccessNote.{AccessNote}
use Rattle.eve_write.proofs.AccessLists.{noted_text}
use Rattle.eve_write.proofs.JoinedWrites.{Puts-then, Puts-whole}
use Rattle.eve_write.proofs.access.write_access.Goals as goal

pub returns : goal.returns
returns g c =
    let x = c.args.access.now in
    let note : AccessNote = record { worker = x.worker; count = c.len.result; place = x.place; index = x.index } in
    let frame = c.as_slice.ensures.value
    ∙ Puts-whole c.new-frame.ensures (Puts-then c.put_note.ensures.puts c.put_entries.ensures)
    ∙ noted_text note x.entries (sym c.len.ensures.len) in
    subst (Writes g.W.Sink.written g.W.Sink.failures c.args.out.now c.send.new.out c.send.result) frame c.send.ensures
