-- The accesses so far are sent or gathered, and the entries of the others are left.
use Rattle.std.proofs.Common.{◌≡◌, take, drop}
use Rattle.eve_write.specs.AccessLists.{accesses_listed, access_text}
use Rattle.eve_write.proofs.AccessLists.{counted}
use Rattle.eve_write.proofs.GatheredTexts.{AreGathered}
use Rattle.eve_write.proofs.access_list.write_accesses.Given as goal

abbrev pub invariant-loop-note : goal.invariant-loop-note
invariant-loop-note g l =
    (l.left ≡ drop (counted (take l.note-index l.note-items)) l.initial.left)
    × AreGathered g.W.Sink.written g.W.Sink.failures access_text (accesses_listed l.note-items l.initial.left)
    l.initial.out l.out l.note-index l.texts.items
