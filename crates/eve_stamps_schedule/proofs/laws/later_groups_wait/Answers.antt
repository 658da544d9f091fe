use Rattle.std.proofs.Common.{refl}
use Rattle.eve_accounts.specs.Names.{customer_named}
use Rattle.eve_stamps_schedule.proofs.laws.later_groups_wait.Goals as goal

pub returns-clause-waits : goal.returns-clause-waits
unfolding customer_named
returns-clause-waits c = refl

pub returns-clause-follows : goal.returns-clause-follows
unfolding customer_named
returns-clause-follows c = refl
