use Rattle.std.proofs.Common.{◌≡◌, ◌-◌, ◌<◌, length, vec_len, vec_capacity}
use Rattle.eve_workload.specs.declared.words.TheConstants.{MOST_WORDS}
use Rattle.eve_workload.specs.inner.Words.{bytes_of}
use Rattle.eve_workload.proofs.SplitLines.{IsSplit}
use Rattle.eve_workload.proofs.words.split_line.Given as goal

abbrev pub invariant-loop-words : goal.invariant-loop-words
invariant-loop-words l = record {
  split : IsSplit l.text (bytes_of l.words.items) l.from l.at;
  few : vec_len l.words < MOST_WORDS;
  room : vec_capacity l.words ≡ vec_capacity l.fn.words;
}

abbrev pub decreases-loop-words : goal.decreases-loop-words
decreases-loop-words l = length l.text - l.at
