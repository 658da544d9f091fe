-- Balances of which tokens are hashed, on the way from batch to batch. docs/MODEL.md, "Token".
use Rattle.std.specs.Prelude.{ℕ, ℤ, List, Bool, true, false, ◌==◌, ◌||◌}
use Rattle.eve_agree.specs.declared.hashed_rows.HashedRows.{HashedRows}
use Rattle.eve_agree.specs.declared.hashed_rows.HashedRows.TheVariants.{Plain, Tree}

-- all balances, in row order
abbrev pub balances_in : HashedRows → List ℤ
balances_in (Plain balances) = balances
balances_in (Tree balances) = balances

abbrev pub has_tree : HashedRows → Bool
has_tree (Plain balances) = false
has_tree (Tree balances) = true

-- they have what this version's tokens are hashed of: a tree, but in version 1
abbrev pub can_hash : ℕ → HashedRows → Bool
can_hash version rows = (version == 1) || has_tree rows
