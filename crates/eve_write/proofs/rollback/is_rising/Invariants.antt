-- The restores so far rise, and the least row that may follow stands in `least`.
use Rattle.std.proofs.Common.{◌≡◌, drop}
use Rattle.eve_grammar.specs.Limits.{is_rising}
use Rattle.eve_grammar.proofs.Scans.{is_rising_from}
use Rattle.eve_write.proofs.rollback.is_rising.Given as goal

abbrev pub invariant-loop-restore : goal.invariant-loop-restore
invariant-loop-restore l =
    is_rising_from l.least (drop l.restore-index l.restores) ≡ is_rising l.restores
