use Rattle.eve_agree.specs.inner.NumbersJudged.{NoneBefore}
use Rattle.eve_agree.proofs.agreement.first_to_commit.Given as goal

abbrev pub invariant-loop-e : goal.invariant-loop-e
invariant-loop-e l = NoneBefore l.histories l.n l.e
