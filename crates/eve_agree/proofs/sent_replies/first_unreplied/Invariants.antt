use Rattle.eve_agree.specs.SentReplies.{AreReplied}
use Rattle.eve_agree.specs.inner.KeptRequests.{AreRepliesOf}
use Rattle.eve_agree.proofs.sent_replies.first_unreplied.Given as goal

abbrev pub invariant-loop-i : goal.invariant-loop-i
invariant-loop-i l = record {
  replied : AreReplied l.trace l.from l.i;
  replies : AreRepliesOf l.trace l.replies;
}
