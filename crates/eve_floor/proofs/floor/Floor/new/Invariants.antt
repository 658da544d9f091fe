use Rattle.std.proofs.Common.{◌≡◌, vec_len}
use Rattle.eve_floor.proofs.floor.Floor.new.Given as goal

abbrev pub invariant-loop-stripe : goal.invariant-loop-stripe
invariant-loop-stripe l = vec_len l.stripes ≡ l.stripe
