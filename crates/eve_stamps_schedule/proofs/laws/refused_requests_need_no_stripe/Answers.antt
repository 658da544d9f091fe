use Rattle.std.proofs.Common.{refl}
use Rattle.eve_accounts.specs.Names.{customer_named}
use Rattle.eve_stamps_schedule.proofs.laws.refused_requests_need_no_stripe.Goals as goal

pub returns-clause-ticks : goal.returns-clause-ticks
unfolding customer_named
returns-clause-ticks c = refl

pub returns-clause-locks : goal.returns-clause-locks
unfolding customer_named
returns-clause-locks c = refl

pub returns-clause-nobody : goal.returns-clause-nobody
unfolding customer_named
returns-clause-nobody c = refl
