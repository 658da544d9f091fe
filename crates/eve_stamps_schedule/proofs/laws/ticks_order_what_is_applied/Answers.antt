use Rattle.std.proofs.Common.{refl}
use Rattle.eve_accounts.specs.Names.{customer_named}
use Rattle.eve_stamps_schedule.proofs.laws.ticks_order_what_is_applied.Goals as goal

pub returns-clause-allowed : goal.returns-clause-allowed
unfolding customer_named
returns-clause-allowed c = refl

pub returns-clause-order : goal.returns-clause-order
unfolding customer_named
returns-clause-order c = refl

pub returns-clause-open : goal.returns-clause-open
unfolding customer_named
returns-clause-open c = refl
