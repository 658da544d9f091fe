use Rattle.std.proofs.Common.{◌≡◌}
use Rattle.eve_agree.specs.inner.HashedRows.{balances_in}
use Rattle.eve_agree.specs.inner.NumbersJudged.{IsAfter}
use Rattle.eve_agree.proofs.due_tokens.start_at.Given as goal

abbrev pub invariant-loop-n : goal.invariant-loop-n
invariant-loop-n l = record {
  last : l.rest.last ≡ l.fn.rest.last;
  balances : IsAfter l.settled l.n (balances_in l.rest.rows);
}
