use Rattle.std.proofs.Common.{◌≡◌, ◌≤◌, take, count_by}
use Rattle.eve_grammar.specs.Bodies.{borrowed_choice}
use Rattle.eve_evidence_outcomes.proofs.Backers.{backs}
use Rattle.eve_evidence_outcomes.proofs.polls.count_backers.Given as goal

abbrev pub invariant-loop-v : goal.invariant-loop-v
invariant-loop-v l = record {
  count : l.count ≡ count_by (backs l.n l.view (borrowed_choice l.choice)) (take l.v l.trace.verifiers);
  few : l.count ≤ l.v;
}
