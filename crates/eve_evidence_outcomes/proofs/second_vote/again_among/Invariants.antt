use Rattle.std.proofs.Common.{◌≡◌, take}
use Rattle.eve_views.specs.Form.{SomePlace}
use Rattle.eve_votes.specs.Faults.{IsFurther}
use Rattle.eve_evidence_outcomes.proofs.second_vote.again_among.Given as goal

abbrev pub invariant-loop-i : goal.invariant-loop-i
invariant-loop-i l = ¬ SomePlace (take l.i l.votes) (λ before w. (w.0 ≡ l.at) × IsFurther before w)
