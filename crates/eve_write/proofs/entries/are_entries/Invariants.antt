-- The entries so far are right.
use Rattle.std.proofs.Common.{◌≡◌, true, take}
use Rattle.std.specs.List.{list_all}
use Rattle.eve_grammar.specs.Limits.{is_entry}
use Rattle.eve_write.proofs.entries.are_entries.Given as goal

abbrev pub invariant-loop-place : goal.invariant-loop-place
invariant-loop-place l = list_all (is_entry l.rows) (take l.place l.entries) ≡ true
