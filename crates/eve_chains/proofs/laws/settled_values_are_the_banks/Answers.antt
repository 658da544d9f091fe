use Rattle.eve_chains.proofs.BankSteps.{settled_values}
use Rattle.eve_chains.proofs.laws.settled_values_are_the_banks.Goals as goal

pub returns : goal.returns
returns c = λ t e n limits right. settled_values t e n limits right
