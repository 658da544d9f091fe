use Rattle.std.proofs.Common.{◌≡◌, IsTrue, length}
use Rattle.std.specs.List.{list_all}
use Rattle.eve_grammar.specs.Limits.{is_entry}
use Rattle.eve_agree.specs.Marks.{marking_of, marked}
use Rattle.eve_agree.proofs.first_seen.FirstSeen.note.Given as goal

abbrev pub invariant-loop-entry : goal.invariant-loop-entry
invariant-loop-entry l = record {
  as_many : length l.self ≡ length l.fn.self;
  right : IsTrue (list_all (is_entry (length l.fn.self)) l.entry-iterator);
  marks : marked (marking_of l.self) l.entry-iterator ≡ marked (marking_of l.fn.self) l.fn.entries;
}
