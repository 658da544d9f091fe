use Rattle.std.proofs.Common.{refl}
use Rattle.eve_accounts.specs.Names.{customer_named}
use Rattle.eve_stamps_schedule.proofs.laws.workers_wait_for_a_stripe.Goals as goal

pub returns-clause-locked : goal.returns-clause-locked
unfolding customer_named
returns-clause-locked c = refl

pub returns-clause-busy : goal.returns-clause-busy
unfolding customer_named
returns-clause-busy c = refl

pub returns-clause-unticked : goal.returns-clause-unticked
unfolding customer_named
returns-clause-unticked c = refl

pub returns-clause-allowed : goal.returns-clause-allowed
unfolding customer_named
returns-clause-allowed c = refl

pub returns-clause-done : goal.returns-clause-done
unfolding customer_named
returns-clause-done c = refl

pub returns-clause-order : goal.returns-clause-order
unfolding customer_named
returns-clause-order c = refl
