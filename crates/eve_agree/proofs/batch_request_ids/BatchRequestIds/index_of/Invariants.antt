use Rattle.std.proofs.Common.{ℕ, ◌<◌}
use Rattle.eve_frames.specs.Views.{sent_in}
use Rattle.eve_agree.specs.inner.KeptRequests.{kept_ids, AnswersAt}
use Rattle.eve_agree.proofs.batch_request_ids.BatchRequestIds.index_of.Given as goal

abbrev pub invariant-loop-i : goal.invariant-loop-i
invariant-loop-i l = (j : ℕ) → j < l.i → ¬ AnswersAt (kept_ids l.self) l.replies (sent_in l.sent.bytes.now) j
