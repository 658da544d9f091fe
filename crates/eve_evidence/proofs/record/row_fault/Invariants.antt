use Rattle.std.proofs.Common.{◌≡◌, map, take}
use Rattle.eve_frames.specs.Decoded.{access_decoded}
use Rattle.eve_evidence.specs.Record.{rows_noted}
use Rattle.eve_evidence.proofs.record.row_fault.Given as goal

abbrev pub invariant-loop-i : goal.invariant-loop-i
invariant-loop-i l = take l.i (rows_noted (access_decoded l.access).entries) ≡ take l.i (map (λ r. r.0) l.rows)
