use Rattle.std.proofs.Common.{None, IsTrue}
use Rattle.eve_chains.specs.CommittedValues.{HaveSameBalances}
use Rattle.eve_agree.specs.inner.HashedRows.{balances_in}
use Rattle.eve_agree.specs.inner.NumbersJudged.{IsAfter}
use Rattle.eve_agree.specs.DueTokens.{IsFirstWrong}
use Rattle.eve_agree.proofs.shown_tokens.first_wrong_beside.Given as goal

abbrev pub invariant-loop-n : goal.invariant-loop-n
invariant-loop-n l = record {
  balances : IsAfter l.judged.settled.now l.n (balances_in l.rows);
  others : IsAfter l.peer.settled.now l.n l.others;
  same : IsTrue l.same → HaveSameBalances l.judged.settled.now l.peer.settled.now l.n;
  due : IsFirstWrong l.trace l.judged.history.now.replica 0 l.n None;
}
