use Rattle.std.proofs.Common.{◌-◌, take, drop}
use Rattle.eve_frames.specs.Decoded.{attempt_decoded}
use Rattle.eve_evidence.specs.Sources.{passed}
use Rattle.eve_evidence.specs.Sought.{NoneFound}
use Rattle.eve_evidence.proofs.sought.last_found_in.Given as goal

abbrev pub invariant-loop-back : goal.invariant-loop-back
invariant-loop-back l =
    NoneFound l.sought (passed (attempt_decoded l.attempt).seq l.accesses
    (drop (l.places - l.back) (take l.places (attempt_decoded l.attempt).certificate)))
