use Rattle.std.proofs.Common.{◌≡◌, ◌≤◌, ◌*◌, take, length}
use Rattle.std.specs.List.{sum_by}
use Rattle.eve_evidence_outcomes.proofs.summary.requests_in_all.Given as goal

abbrev pub invariant-loop-i : goal.invariant-loop-i
invariant-loop-i l = record {
  count : l.count ≡ sum_by (λ b. length b.requests) (take l.i l.trace.batches);
  few : l.count ≤ 256 * l.i;
}
