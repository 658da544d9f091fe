use Rattle.std.proofs.Common.{take, length}
use Rattle.eve_frames.specs.Decoded.{attempt_decoded, batch_decoded}
use Rattle.eve_evidence.specs.Certificate.{AreRightPlaces}
use Rattle.eve_evidence.proofs.certificate.fault_beside.Given as goal

abbrev pub invariant-loop-place : goal.invariant-loop-place
invariant-loop-place l =
    AreRightPlaces (batch_decoded l.batch).1.sizes (length (batch_decoded l.batch).1.requests)
    (attempt_decoded l.attempt).serial
    (take l.place (attempt_decoded l.attempt).certificate)
