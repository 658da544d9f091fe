use Rattle.eve_chains.proofs.BalanceSteps.{advance_along}
use Rattle.eve_chains.proofs.laws.balances_advance_along_the_records.Goals as goal

pub returns : goal.returns
returns c = λ t e n p limits right at. advance_along t e n p limits right at
