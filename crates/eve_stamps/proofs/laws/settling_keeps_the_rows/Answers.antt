use Rattle.eve_stamps.proofs.JournalLaws.{rows_now-settled}
use Rattle.eve_stamps.proofs.laws.settling_keeps_the_rows.Goals as goal

pub returns : goal.returns
returns c = rows_now-settled
