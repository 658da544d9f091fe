-- The records so far are right.
use Rattle.std.proofs.Common.{◌≡◌, true, take}
use Rattle.std.specs.List.{list_all}
use Rattle.eve_grammar.specs.Limits.{is_access}
use Rattle.eve_attempts.specs.ClosedAttempts.{access_noted}
use Rattle.eve_attempts.proofs.noted.are_accesses.Given as goal

abbrev pub invariant-loop-record : goal.invariant-loop-record
invariant-loop-record l = list_all (λ r. is_access l.rows (access_noted r)) (take l.record-index l.records) ≡ true
