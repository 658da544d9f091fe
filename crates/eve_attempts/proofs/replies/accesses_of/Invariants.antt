use Rattle.std.proofs.Common.{◌≡◌, map, take}
use Rattle.eve_attempts.specs.ClosedAttempts.{access_noted}
use Rattle.eve_attempts.proofs.replies.accesses_of.Given as goal

abbrev pub invariant-loop-record : goal.invariant-loop-record
invariant-loop-record l = l.accesses ≡ map access_noted (take l.record-index l.records)
