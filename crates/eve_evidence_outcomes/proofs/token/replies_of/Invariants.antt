use Rattle.std.proofs.Common.{◌≡◌, take}
use Rattle.eve_frames.specs.Decoded.{attempt_decoded}
use Rattle.eve_evidence_outcomes.proofs.token.replies_of.Given as goal

abbrev pub invariant-loop-i : goal.invariant-loop-i
invariant-loop-i l = l.replies.items ≡ take l.i (attempt_decoded l.attempt).replies
