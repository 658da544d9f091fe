use Rattle.eve_agree.proofs.RepliesSent.{no_fault}
use Rattle.eve_agree.proofs.sent_replies.replies_side_by_side.Goals as goal

pub returns-then-are_all_replied-clause-none : goal.returns-then-are_all_replied-clause-none
returns-then-are_all_replied-clause-none g c =
    no_fault c.args.trace.now (c.are_all_replied.ensures c.if-are_all_replied.true)
