use Rattle.eve_chains.proofs.TransferredRows.{balances_are_the_state}
use Rattle.eve_chains.proofs.laws.states_are_the_balances.Goals as goal

pub returns : goal.returns
returns c = balances_are_the_state
