use Rattle.std.proofs.Common.{◌≡◌, ℕ, None, Option, drop, fold}
use Rattle.eve_chains.specs.Records.{lesser}
use Rattle.eve_chains.specs.declared.side_by_side.Judged.{Judged}
use Rattle.eve_chains.proofs.side_by_side.least_mismatch.Given as goal

abbrev pub invariant-loop-one : goal.invariant-loop-one
invariant-loop-one l =
    fold (λ (least : Option ℕ) (one : Judged). lesser least one.mismatch) None l.judged
    ≡ fold (λ (least : Option ℕ) (one : Judged). lesser least one.mismatch) l.least (drop l.one-index l.judged)
