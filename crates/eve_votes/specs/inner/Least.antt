-- The least of the offsets that were found.
use Rattle.std.specs.Prelude.{ℕ, Option, IfSome}
use Rattle.eve_views.specs.Least.{IsBelow}

-- at most each offset of this kind
abbrev pub IsBelowAll : (ℕ → Type 0) → Option ℕ → Type 0
IsBelowAll P least = (at : ℕ) → P at → IsBelow least at

-- the least offset of this kind, if there is one
pub record IsLowest (P : ℕ → Type 0) (found : Option ℕ) : Type 0 where
  pub stands : IfSome found P
  pub below : IsBelowAll P found
