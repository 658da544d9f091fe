use Rattle.eve_run_laws.proofs.RolledBackOnce.{once_or_collides}
use Rattle.eve_run_laws.proofs.laws.runs_roll_back_a_batch_once.Goals as goal

pub returns : goal.returns
returns c = once_or_collides c.states_are_the_balances.ensures
