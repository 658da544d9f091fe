use Rattle.std.proofs.Common.{ℕ, ◌≤◌, ◌<◌, ◌≢◌, length, slice_index}
use Rattle.eve_workload.proofs.words.lines_len.Given as goal

abbrev pub invariant-loop-len : goal.invariant-loop-len
invariant-loop-len l = record {
  within : l.len ≤ length l.text;
  none : (k : ℕ) → l.len ≤ k → k < length l.text → slice_index l.text k ≢ 10;
}

abbrev pub decreases-loop-len : goal.decreases-loop-len
decreases-loop-len l = l.len
