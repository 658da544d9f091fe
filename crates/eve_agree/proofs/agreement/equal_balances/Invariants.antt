use Rattle.eve_chains.specs.CommittedValues.{settlings}
use Rattle.eve_agree.specs.inner.NumbersJudged.{AreAfter, JudgedTo}
use Rattle.eve_agree.proofs.agreement.equal_balances.Given as goal

abbrev pub invariant-loop-n : goal.invariant-loop-n
invariant-loop-n l = record {
  after : AreAfter (settlings l.trace) l.n l.all.items;
  judged : JudgedTo l.trace l.n l.least;
}
