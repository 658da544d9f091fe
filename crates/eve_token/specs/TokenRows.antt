-- Balances of which tokens are made. docs/MODEL.md, "Token".
use Rattle.std.specs.Prelude.{ℕ, ℤ, List}

-- the version of the trace, and the balances of all rows, in row order
pub record TokenRows : Type 0 where
  pub version : ℕ
  pub balances : List ℤ
