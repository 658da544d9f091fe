use Rattle.std.proofs.Common.{rules}
use Rattle.eve_stamps.proofs.stripe.Stripe.is_above.Goals as goal

pub returns-in-Some : goal.returns-in-Some
returns-in-Some c = search rules
