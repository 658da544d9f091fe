-- The entries so far are right.
use Rattle.std.proofs.Common.{◌≡◌, true, take}
use Rattle.std.specs.List.{list_all}
use Rattle.eve_grammar.specs.Limits.{is_entry}
use Rattle.eve_write.proofs.entries.each_entry_fits.Given as goal

abbrev pub invariant-loop-entry : goal.invariant-loop-entry
invariant-loop-entry l = list_all (is_entry l.rows) (take l.entry-index l.entries) ≡ true
