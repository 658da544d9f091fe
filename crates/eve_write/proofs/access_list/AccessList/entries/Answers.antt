use Rattle.std.proofs.Common.{sym, ap, ◌∙◌}
use Rattle.std.specs.List.{flat_map}
use Rattle.eve_write.proofs.AccessLists.{accesses-entries}
use Rattle.eve_write.proofs.access_list.AccessList.entries.Goals as goal

pub returns : goal.returns
returns c =
    let l = c.self.inside in
    c.as_slice.ensures.value ∙ sym (accesses-entries l.notes.items l.entries.items c.self.invariant.all)
    ∙ ap (flat_map (λ x. x.entries)) c.self.view_is
