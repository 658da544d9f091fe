use Rattle.eve_history.proofs.MarkedRecords.{marked_none}
use Rattle.eve_history.proofs.access_marks.AccessMarks.new.Goals as goal

pub returns : goal.returns
returns c = marked_none
