use Rattle.eve_history.proofs.SettledSteps.{committed_is_step, settled_are_steps, state_is_step}
use Rattle.eve_history.proofs.laws.outcomes_come_of_steps.Goals as goal

pub returns : goal.returns
returns c = record { committed = committed_is_step; settled = settled_are_steps; transferred = state_is_step }
