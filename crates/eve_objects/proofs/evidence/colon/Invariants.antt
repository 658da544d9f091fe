-- No colon stands before a place.
use Rattle.std.proofs.Common.{◌≡◌, ◌≤◌, ◌+◌, drop, length}
use Rattle.eve_objects.specs.Evidence.{colon}
use Rattle.eve_objects.proofs.evidence.colon.Given as goal

abbrev pub invariant-bytes : goal.invariant-bytes
invariant-bytes l = (colon l.line ≡ l.at + colon (drop l.at l.line)) × (l.at ≤ length l.line)
