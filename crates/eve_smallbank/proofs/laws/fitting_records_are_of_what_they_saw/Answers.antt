use Rattle.eve_smallbank.proofs.SeenValues.{made_of_seen}
use Rattle.eve_smallbank.proofs.laws.fitting_records_are_of_what_they_saw.Goals as goal

pub returns : goal.returns
returns c = made_of_seen
