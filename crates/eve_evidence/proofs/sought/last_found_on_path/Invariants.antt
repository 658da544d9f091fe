use Rattle.std.proofs.Common.{◌-◌, drop}
use Rattle.eve_evidence.specs.Sought.{NoneFound}
use Rattle.eve_evidence.proofs.RecordLookups.{on_way}
use Rattle.eve_evidence.proofs.sought.last_found_on_path.Given as goal

abbrev pub invariant-loop-back : goal.invariant-loop-back
invariant-loop-back l = NoneFound l.sought (on_way (drop (l.count - l.back) l.course.path.items))
