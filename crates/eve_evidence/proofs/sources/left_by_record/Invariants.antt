use Rattle.std.proofs.Common.{◌≡◌, take}
use Rattle.eve_frames.specs.Decoded.{access_decoded}
use Rattle.eve_evidence.specs.Sources.{last_left}
use Rattle.eve_evidence.proofs.sources.left_by_record.Given as goal

abbrev pub invariant-loop-i : goal.invariant-loop-i
invariant-loop-i l = l.left ≡ last_left l.row (take l.i (access_decoded l.access).entries)
