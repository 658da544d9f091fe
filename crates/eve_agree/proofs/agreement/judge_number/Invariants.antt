use Rattle.std.proofs.Common.{ℕ, ◌<◌}
use Rattle.eve_agree.specs.inner.NumbersJudged.{AgreesIn}
use Rattle.eve_agree.proofs.agreement.judge_number.Given as goal

abbrev pub invariant-loop-e : goal.invariant-loop-e
invariant-loop-e l = (i : ℕ) → i < l.e → AgreesIn l.trace i l.n
