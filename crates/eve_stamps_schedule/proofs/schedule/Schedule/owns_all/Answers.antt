use Rattle.std.proofs.Common.{◌≡◌, ℕ, Bool, true, false, Option, None, Some, refl, ap, ◌∙◌}
use Rattle.std.specs.Prelude.{not, is_none, is_some}
use Rattle.eve_stamps_schedule.proofs.schedule.Schedule.owns_all.Goals as goal

none_told : (stripe : Option ℕ) (told : Bool) → is_some stripe ≡ not told → told ≡ is_none stripe
none_told None true is = refl
none_told None false is = is
none_told (Some stripe) true is = is
none_told (Some stripe) false is = refl

pub returns : goal.returns
returns c = none_told c.next_stripe.result c.is_none.result c.is_none.ensures ∙ ap is_none c.next_stripe.ensures
