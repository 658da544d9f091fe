use Rattle.std.proofs.Common.{◌≡◌, ℕ, ◌<◌, Some, slice_get}
use Rattle.eve_grammar.specs.Trace.{Sent}
use Rattle.eve_grammar.specs.Spelling.{sent_at}
use Rattle.eve_agree.specs.SentReplies.{IsReplied}
use Rattle.eve_evidence_outcomes.proofs.sent.reply_evidence.Given as goal

abbrev pub invariant-loop-i : goal.invariant-loop-i
invariant-loop-i l =
    (k : ℕ) (s : ℕ × Sent) → k < l.i → slice_get (sent_at l.trace) k ≡ Some s → s.0 ≡ l.place → IsReplied l.trace s.1
