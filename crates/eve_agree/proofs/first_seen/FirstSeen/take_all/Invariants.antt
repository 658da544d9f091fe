use Rattle.std.proofs.Common.{◌≡◌, IsTrue, length}
use Rattle.std.specs.List.{list_all}
use Rattle.eve_grammar.specs.Limits.{is_restore}
use Rattle.eve_agree.specs.Marks.{marking_of}
use Rattle.eve_agree.proofs.MarkLaws.{IsClearing}
use Rattle.eve_agree.proofs.first_seen.FirstSeen.take_all.Given as goal

abbrev pub invariant-loop-restored : goal.invariant-loop-restored
invariant-loop-restored l = record {
  as_many : length l.self ≡ length l.fn.self;
  rows : IsTrue (list_all (is_restore (length l.fn.self)) l.restored-iterator);
  clearing : IsClearing (marking_of l.fn.self) (marking_of l.self) l.fn.restores l.restored-iterator;
}
