use Rattle.std.proofs.Common.{take}
use Rattle.std.specs.List.{AllByRecursion}
use Rattle.eve_frames.specs.Decoded.{rollback_decoded}
use Rattle.eve_evidence.specs.Seen.{GivesThat}
use Rattle.eve_evidence.proofs.prefix.restores.Given as goal

abbrev pub invariant-loop-i : goal.invariant-loop-i
invariant-loop-i l = AllByRecursion (λ x. ¬ GivesThat l.row l.left x) (take l.i (rollback_decoded l.rollback).restores)
