use Rattle.eve_stamps.proofs.JournalLaws.{rows_now-noted}
use Rattle.eve_stamps.proofs.laws.rows_take_what_is_noted.Goals as goal

pub returns : goal.returns
returns c = rows_now-noted
