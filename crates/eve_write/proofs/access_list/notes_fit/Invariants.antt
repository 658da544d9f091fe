-- The notes so far fit.
use Rattle.std.proofs.Common.{◌≡◌, true, take}
use Rattle.std.specs.List.{list_all}
use Rattle.eve_write.specs.AccessLists.{is_note}
use Rattle.eve_write.proofs.access_list.notes_fit.Given as goal

abbrev pub invariant-loop-note : goal.invariant-loop-note
invariant-loop-note l = list_all is_note (take l.note-index l.notes) ≡ true
