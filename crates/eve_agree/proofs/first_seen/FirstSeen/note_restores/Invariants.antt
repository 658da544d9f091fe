use Rattle.std.proofs.Common.{◌≡◌, IsTrue, length}
use Rattle.std.specs.List.{list_all}
use Rattle.eve_grammar.specs.Limits.{is_restore}
use Rattle.eve_agree.specs.Marks.{marking_of, marked_by}
use Rattle.eve_agree.proofs.first_seen.FirstSeen.note_restores.Given as goal

abbrev pub invariant-loop-restored : goal.invariant-loop-restored
invariant-loop-restored l = record {
  as_many : length l.self ≡ length l.fn.self;
  right : IsTrue (list_all (is_restore (length l.fn.self)) l.restored-iterator);
  marks : marked_by (marking_of l.self) l.restored-iterator ≡ marked_by (marking_of l.fn.self) l.fn.restores;
}
