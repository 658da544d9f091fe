use Rattle.std.proofs.Common.{◌≡◌, map, take}
use Rattle.eve_smallbank.specs.Decide.{effect_in}
use Rattle.eve_frames.specs.Decoded.{access_decoded}
use Rattle.eve_evidence.proofs.record.effect_fault.Given as goal

abbrev pub invariant-loop-i : goal.invariant-loop-i
invariant-loop-i l = take l.i (map effect_in (access_decoded l.access).entries) ≡ take l.i l.effects
