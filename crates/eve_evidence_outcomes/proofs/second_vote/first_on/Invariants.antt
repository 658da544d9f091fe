use Rattle.std.proofs.Common.{take}
use Rattle.std.specs.Prelude.{IsFalse}
use Rattle.std.specs.List.{AllByRecursion}
use Rattle.eve_votes.specs.Votes.{is_vote_on}
use Rattle.eve_evidence_outcomes.proofs.second_vote.first_on.Given as goal

abbrev pub invariant-loop-i : goal.invariant-loop-i
invariant-loop-i l = AllByRecursion (λ z. IsFalse (is_vote_on l.n l.view z.1)) (take l.i l.votes)
