use Rattle.std.proofs.Common.{◌≡◌, ◌≤◌, take, count_by}
use Rattle.eve_evidence_outcomes.specs.Counts.{is_fate}
use Rattle.eve_evidence_outcomes.proofs.summary.fate_count.Given as goal

abbrev pub invariant-loop-i : goal.invariant-loop-i
invariant-loop-i l = record {
  count : l.count ≡ count_by (is_fate l.of) (take l.i l.history.fates);
  few : l.count ≤ l.i;
}
