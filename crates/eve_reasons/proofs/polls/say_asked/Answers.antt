use Rattle.eve_reasons.proofs.polls.say_asked.Goals as goal

pub returns-in-ForRollback : goal.returns-in-ForRollback
returns-in-ForRollback c = rw c.in-ForRollback.is c.say.ensures

pub returns-in-ForCommit : goal.returns-in-ForCommit
returns-in-ForCommit c = rw c.in-ForCommit.is c.say-in-ForCommit.ensures
