use Rattle.eve_smallbank.proofs.Walks.{row_chained_by_walk}
use Rattle.eve_smallbank.proofs.laws.rows_are_chained_by_walks.Goals as goal

pub returns : goal.returns
returns c = row_chained_by_walk
