use Rattle.std.proofs.Common.{◌-◌, take, drop}
use Rattle.eve_frames.specs.Decoded.{attempt_decoded}
use Rattle.eve_evidence.specs.Sources.{passed}
use Rattle.eve_evidence.specs.Sought.{NoneFound}
use Rattle.eve_evidence.proofs.sought.first_found.Given as goal

abbrev pub invariant-loop-place : goal.invariant-loop-place
invariant-loop-place l =
    NoneFound l.sought (passed (attempt_decoded l.attempt).seq l.accesses
    (take (l.place - l.from) (drop l.from (take l.to (attempt_decoded l.attempt).certificate))))
