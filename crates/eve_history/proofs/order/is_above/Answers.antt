use Rattle.std.proofs.Common.{sym, ◌∙◌}
use Rattle.std.proofs.lemmas.Bool.{ltb-true}
use Rattle.eve_history.specs.inner.GreatestNumbers.{greatest_of}
use Rattle.eve_history.proofs.GreatestNumbers.{reached_more}
use Rattle.eve_history.proofs.order.is_above.Goals as goal

pub returns-in-Ok-Some-clause-above : goal.returns-in-Ok-Some-clause-above
returns-in-Ok-Some-clause-above c = λ above.
    reached_more (greatest_of c.args.greatest.now) (greatest_of c.keep.new.self) c.args.client c.args.number
    c.in-Ok-Some.before (sym c.in-Ok-Some.field-0-is ∙ c.in-Ok-Some.ensures.before)
    (ltb-true c.in-Ok-Some.before c.args.number above) c.in-Ok-Some.ensures.kept
