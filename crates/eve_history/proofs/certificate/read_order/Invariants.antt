use Rattle.std.proofs.Common.{◌≡◌, take}
use Rattle.eve_frames.specs.Views.{attempt_in}
use Rattle.eve_history.proofs.certificate.read_order.Given as goal

abbrev pub invariant-loop-place : goal.invariant-loop-place
invariant-loop-place l = take l.place l.order ≡ take l.place (attempt_in l.attempt.bytes.now).certificate
