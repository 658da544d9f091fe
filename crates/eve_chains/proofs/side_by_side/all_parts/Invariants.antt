use Rattle.std.proofs.Common.{◌≡◌, flat_map}
use Rattle.eve_chains.specs.declared.side_by_side.Judged.{Judged}
use Rattle.eve_chains.proofs.side_by_side.all_parts.Given as goal

abbrev pub invariant-loop-one : goal.invariant-loop-one
invariant-loop-one l = l.all.items ≡ flat_map (λ (one : Judged). one.parts.items) l.yielded
