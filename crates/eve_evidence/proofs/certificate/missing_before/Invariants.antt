use Rattle.std.proofs.Common.{ℕ, ◌<◌, take}
use Rattle.eve_frames.specs.Decoded.{attempt_decoded, batch_decoded}
use Rattle.eve_evidence.specs.Certificate.{IsMissing}
use Rattle.eve_evidence.proofs.certificate.missing_before.Given as goal

abbrev pub invariant-loop-m : goal.invariant-loop-m
invariant-loop-m l =
    (k : ℕ) → k < l.m
    → ¬ IsMissing (batch_decoded l.batch).1.sizes (take l.count (attempt_decoded l.attempt).certificate) l.index k
