use Rattle.std.proofs.Common.{◌≡◌, None, Option, drop, fold}
use Rattle.eve_views.specs.First.{first_of}
use Rattle.eve_views.specs.declared.fault.Fault.{Fault}
use Rattle.eve_chains.specs.declared.rows.WalkedRange.{WalkedRange}
use Rattle.eve_chains.proofs.rows.first_of_all.Given as goal

abbrev pub invariant-loop-one : goal.invariant-loop-one
invariant-loop-one l =
    fold (λ (first : Option Fault) (one : WalkedRange). first_of first one.first) None l.walked
    ≡ fold (λ (first : Option Fault) (one : WalkedRange). first_of first one.first) l.first (drop l.one-index l.walked)
