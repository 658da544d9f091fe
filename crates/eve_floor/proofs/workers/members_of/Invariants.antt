use Rattle.std.proofs.Common.{◌≡◌, ℕ, ◌<◌, ◌≤◌, vec_len, vec_capacity, None, IsSome}
use Rattle.std.specs.Prelude.{slice_index_or}
use Rattle.eve_floor.specs.SharedBatches.{AreSeatedAt}
use Rattle.eve_floor.proofs.workers.members_of.Given as goal

abbrev pub invariant-loop-number : goal.invariant-loop-number
invariant-loop-number l =
    AreSeatedAt l.tickets l.members.items × (vec_len l.members ≡ l.number) × (l.workers ≤ vec_capacity l.members)
    × (l.all.tickets ≡ l.tickets)
    × ((k : ℕ) → l.number ≤ k → k < l.workers → IsSome (slice_index_or l.all.places k None))
