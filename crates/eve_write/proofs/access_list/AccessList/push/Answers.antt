use Rattle.std.proofs.Common.{◌≡◌, ◌++◌, ◌∷◌, [], ap, ◌∙◌}
use Rattle.eve_write.specs.declared.access_list.AccessNote.{AccessNote}
use Rattle.eve_write.specs.AccessLists.{accesses_listed, noted_access}
use Rattle.eve_write.proofs.AccessLists.{accesses-push}
use Rattle.eve_write.proofs.access_list.AccessList.push.Goals as goal

pub returns-clause-pushed : goal.returns-clause-pushed
returns-clause-pushed c =
    let l = c.self.inside in
    let more = c.args.entries.now in
    let note : AccessNote =
    record { worker = c.args.worker; count = c.len-count.result; place = c.args.place; index = c.args.index } in
    let notes : c.push_reserved.new.self.items ≡ l.notes.items ++ note ∷ [] =
    c.push_reserved.ensures.items ∙ ap (λ xs. xs ++ note ∷ []) c.in_ok-reserve.ensures.items in
    let entries : c.push_all.new.list.items ≡ l.entries.items ++ more =
    c.push_all.ensures ∙ ap (λ es. es ++ more) c.in_ok-reserve-2.ensures.items in
    ap (λ ns. accesses_listed ns c.push_all.new.list.items) notes
    ∙ ap (λ es. accesses_listed (l.notes.items ++ note ∷ []) es) entries
    ∙ accesses-push l.notes.items l.entries.items more note c.self.invariant.all c.len-count.ensures.len
    ∙ ap (λ xs. xs ++ noted_access c.args.worker c.args.place c.args.index more ∷ []) c.self.view_is
