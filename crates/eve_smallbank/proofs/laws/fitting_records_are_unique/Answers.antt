use Rattle.eve_smallbank.proofs.Unique.{made_of_table}
use Rattle.eve_smallbank.proofs.laws.fitting_records_are_unique.Goals as goal

pub returns : goal.returns
returns c = made_of_table
