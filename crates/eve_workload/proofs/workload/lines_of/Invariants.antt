use Rattle.std.proofs.Common.{◌≡◌, ◌-◌, ◌≤◌, length, vec_capacity}
use Rattle.eve_workload.specs.declared.words.TheConstants.{MOST_WORDS}
use Rattle.eve_workload.proofs.TextLines.{IsRead}
use Rattle.eve_workload.proofs.workload.lines_of.Given as goal

abbrev pub invariant-loop-at : goal.invariant-loop-at
invariant-loop-at l = record {
  read : IsRead l.text l.at l.draft;
  format : l.draft.format ≡ l.format;
  room : MOST_WORDS ≤ vec_capacity l.words;
}

abbrev pub decreases-loop-at : goal.decreases-loop-at
decreases-loop-at l = length l.text - l.at
