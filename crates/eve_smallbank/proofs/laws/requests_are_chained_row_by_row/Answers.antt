use Rattle.eve_smallbank.proofs.Chains.{chained_by_rows, rows_by_chain}
use Rattle.eve_smallbank.proofs.laws.requests_are_chained_row_by_row.Goals as goal

pub returns : goal.returns
returns c base before xs = (rows_by_chain base before xs, chained_by_rows base before xs)
