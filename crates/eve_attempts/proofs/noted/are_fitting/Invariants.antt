use Rattle.std.proofs.Common.{◌≡◌, ℕ, List}
use Rattle.eve_smallbank.specs.Access.{Fits}
use Rattle.eve_write.specs.Data.{batch as plain}
use Rattle.eve_attempts.specs.ClosedAttempts.{touched_in_batch, executed}
use Rattle.eve_attempts.proofs.Lists.{Goes}
use Rattle.eve_attempts.proofs.noted.are_fitting.Given as goal

abbrev pub invariant-loop-record : goal.invariant-loop-record
invariant-loop-record l =
    let b = plain l.noted.batch.now in
    (names : List (List ℕ)) → l.noted.touched.now ≡ touched_in_batch names b
    → Goes (λ r. Fits names (executed b r)) l.noted.records.now l.record-index
