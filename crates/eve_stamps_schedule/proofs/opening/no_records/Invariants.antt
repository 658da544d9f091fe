use Rattle.std.proofs.Common.{◌≡◌, map, replicate, []}
use Rattle.eve_stamps_schedule.proofs.opening.no_records.Given as goal

abbrev pub invariant-loop : goal.invariant-loop
invariant-loop l = map (λ v. v.items) l.noted.items ≡ replicate l.counter []
