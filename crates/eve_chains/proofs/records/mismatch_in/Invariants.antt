use Rattle.eve_chains.specs.Records.{records_between, IsLeastMismatch}
use Rattle.eve_chains.proofs.records.mismatch_in.Given as goal

abbrev pub invariant-loop-i : goal.invariant-loop-i
invariant-loop-i l =
    IsLeastMismatch l.names.items
    (records_between l.section.trace.now l.section.history.now l.fn.stretch.from l.i) l.mismatch
