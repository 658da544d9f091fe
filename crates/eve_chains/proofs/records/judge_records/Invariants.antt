use Rattle.std.proofs.Common.{◌≡◌, Some, map, take, slice_get}
use Rattle.eve_smallbank.specs.SmallBank.{plain}
use Rattle.eve_history.specs.SectionHistory.{ExecutedAttempt}
use Rattle.eve_chains.specs.Records.{recorded_of, IsLeastMismatch}
use Rattle.eve_chains.proofs.records.judge_records.Given as goal

abbrev pub invariant-loop-place : goal.invariant-loop-place
invariant-loop-place l =
    (r : ExecutedAttempt) → slice_get l.history.attempts l.i ≡ Some r
    → IsLeastMismatch l.names.items
    (map (recorded_of (map plain l.requests) r.attempt.replies) (take l.place r.ordered)) l.least
