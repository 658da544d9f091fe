use Rattle.std.proofs.Common.{sym, ap, ◌∙◌}
use Rattle.std.specs.List.{list_all}
use Rattle.eve_grammar.specs.Limits.{is_entry, is_access}
use Rattle.eve_write.specs.AccessLists.{is_note}
use Rattle.eve_write.proofs.AccessLists.{accesses-within}
use Rattle.eve_write.proofs.access_list.AccessList.are_within.Goals as goal

pub returns : goal.returns
returns c =
    let l = c.self.inside in
    let rows = c.args.rows in
    let fits = sym (ap (list_all is_note) c.as_slice.ensures.value) ∙ c.notes_fit.ensures in
    c.each_entry_fits.ensures ∙ ap (list_all (is_entry rows)) c.as_slice-2.ensures.value
    ∙ accesses-within rows l.notes.items l.entries.items c.self.invariant fits
    ∙ ap (list_all (is_access rows)) c.self.view_is
