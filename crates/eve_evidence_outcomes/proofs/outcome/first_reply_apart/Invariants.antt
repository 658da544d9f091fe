use Rattle.std.proofs.Common.{◌≡◌, ℕ, ◌<◌, slice_get}
use Rattle.eve_frames.specs.Decoded.{attempt_decoded}
use Rattle.eve_evidence_outcomes.proofs.outcome.first_reply_apart.Given as goal

abbrev pub invariant-loop-index : goal.invariant-loop-index
invariant-loop-index l =
    (i : ℕ) → i < l.index → slice_get (attempt_decoded l.own).replies i ≡ slice_get (attempt_decoded l.its).replies i
