use Rattle.std.proofs.Common.{◌≡◌, drop}
use Rattle.eve_agree.specs.inner.Stretches.{first_found}
use Rattle.eve_agree.proofs.due_tokens.first_of_all.Given as goal

abbrev pub invariant-loop-stretch : goal.invariant-loop-stretch
invariant-loop-stretch l = first_found l.stretches ≡ first_found (drop l.stretch-index l.stretches)
