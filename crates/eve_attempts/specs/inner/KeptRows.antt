-- Rows as a ledger keeps them. docs/DEPLOYMENT.md, "A replica's ledger".
use Rattle.std.specs.Prelude.{ℕ}
use Rattle.eve_attempts.specs.Ledgers.{Rows}

-- the version of the trace, by which tokens are made of them, and the rows
pub record KeptRows : Type 0 where
  pub version : ℕ
  pub rows : Rows
