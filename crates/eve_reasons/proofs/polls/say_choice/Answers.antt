use Rattle.eve_reasons.proofs.polls.say_choice.Goals as goal

pub returns-in-Commit : goal.returns-in-Commit
returns-in-Commit c = rw c.in-Commit.is c.say.ensures

pub returns-in-Rollback : goal.returns-in-Rollback
returns-in-Rollback c = rw c.in-Rollback.is c.say-in-Rollback.ensures

pub returns-in-NoVote : goal.returns-in-NoVote
returns-in-NoVote c = rw c.in-NoVote.is c.say-in-NoVote.ensures
