use Rattle.eve_chains.proofs.BankSteps.{reached_is_defined}
use Rattle.eve_chains.proofs.laws.defined_numbers_are_reached.Goals as goal

pub returns : goal.returns
returns c = reached_is_defined
