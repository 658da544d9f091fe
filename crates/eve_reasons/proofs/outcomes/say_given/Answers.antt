use Rattle.eve_reasons.proofs.outcomes.say_given.Goals as goal

pub returns-in-None : goal.returns-in-None
returns-in-None c = rw c.in-None.is c.say.ensures
