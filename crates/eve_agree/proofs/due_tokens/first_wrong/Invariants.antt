use Rattle.std.proofs.Common.{None, IsTrue}
use Rattle.eve_agree.specs.inner.HashedRows.{balances_in, can_hash}
use Rattle.eve_agree.specs.inner.NumbersJudged.{IsAfter}
use Rattle.eve_agree.specs.DueTokens.{IsFirstWrong}
use Rattle.eve_agree.proofs.due_tokens.first_wrong.Given as goal

abbrev pub invariant-loop-n : goal.invariant-loop-n
invariant-loop-n l = record {
  balances : IsAfter l.settled l.n (balances_in l.rows);
  can : IsTrue (can_hash l.trace.head.version l.rows);
  due : IsFirstWrong l.trace l.history.replica l.before l.n None;
}
