use Rattle.eve_attempts.proofs.MarkedRecords.{Marking}
use Rattle.eve_attempts.proofs.accesses.are_right_accesses.Given as goal

abbrev pub invariant-loop-record : goal.invariant-loop-record
invariant-loop-record l = Marking l.workers l.count l.records l.record-index l.seen l.places
