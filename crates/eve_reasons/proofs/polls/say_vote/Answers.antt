use Rattle.eve_reasons.proofs.polls.say_vote.Goals as goal

pub returns-in-For : goal.returns-in-For
returns-in-For c = rw c.in-For.is c.say.ensures

pub returns-in-Otherwise : goal.returns-in-Otherwise
returns-in-Otherwise c = rw c.in-Otherwise.is c.say-in-Otherwise.ensures

pub returns-in-NoVote : goal.returns-in-NoVote
returns-in-NoVote c = rw c.in-NoVote.is c.say-in-NoVote.ensures
