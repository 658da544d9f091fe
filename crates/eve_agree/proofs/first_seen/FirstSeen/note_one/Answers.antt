-- Written, so that a wrong body fails soon.
use Rattle.std.proofs.Common.{rules}
use Rattle.eve_agree.proofs.first_seen.FirstSeen.note_one.Goals as goal

pub returns-in-Write-clause-marks : goal.returns-in-Write-clause-marks
returns-in-Write-clause-marks c = search rules

pub returns-in-Read-clause-marks : goal.returns-in-Read-clause-marks
returns-in-Read-clause-marks c = search rules
