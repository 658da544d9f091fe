use Rattle.std.proofs.Common.{true, false, ap}
use Rattle.eve_grammar.specs.Bodies.{borrowed_choice}
use Rattle.eve_evidence_outcomes.proofs.Backers.{is_for, one_for}
use Rattle.eve_evidence_outcomes.proofs.polls.backing.Goals as goal

pub returns-in-For-clause-is : goal.returns-in-For-clause-is
returns-in-For-clause-is c =
    one_for c.args.trace.now c.args.n c.args.view c.args.v (borrowed_choice c.args.choice) c.told_vote.result
    c.votes-votes.result true c.votes-votes.ensures c.told_vote.ensures (ap is_for c.in-For.is)

pub returns-in-Otherwise-clause-is : goal.returns-in-Otherwise-clause-is
returns-in-Otherwise-clause-is c =
    one_for c.args.trace.now c.args.n c.args.view c.args.v (borrowed_choice c.args.choice) c.told_vote.result
    c.votes-votes.result false c.votes-votes.ensures c.told_vote.ensures (ap is_for c.in-Otherwise.is)

pub returns-in-NoVote-clause-is : goal.returns-in-NoVote-clause-is
returns-in-NoVote-clause-is c =
    one_for c.args.trace.now c.args.n c.args.view c.args.v (borrowed_choice c.args.choice) c.told_vote.result
    c.votes-votes.result false c.votes-votes.ensures c.told_vote.ensures (ap is_for c.in-NoVote.is)
