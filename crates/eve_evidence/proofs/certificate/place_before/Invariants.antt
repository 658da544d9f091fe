use Rattle.std.proofs.Common.{take}
use Rattle.eve_frames.specs.Decoded.{attempt_decoded}
use Rattle.eve_evidence.specs.Certificate.{HasNot}
use Rattle.eve_evidence.proofs.certificate.place_before.Given as goal

abbrev pub invariant-loop-place : goal.invariant-loop-place
invariant-loop-place l = HasNot (take l.place (attempt_decoded l.attempt).certificate) l.index
