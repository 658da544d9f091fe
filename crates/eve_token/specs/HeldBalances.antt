-- How balances of which tokens are made are held.
use Rattle.eve_token.specs.declared.token_rows.Kept.{Kept}
use Rattle.eve_token.specs.declared.token_rows.Kept.TheVariants.{Flat, Tree}
use Rattle.eve_token.specs.TokenRows.{TokenRows}

abbrev pub token_rows_of : Kept → TokenRows
token_rows_of (Flat balances) = record { version = 1; balances = balances }
token_rows_of (Tree balances) = record { version = 2; balances = balances }
