use Rattle.eve_smallbank.proofs.Records.{touches_rows}
use Rattle.eve_smallbank.proofs.laws.fitting_records_touch_their_rows.Goals as goal

pub returns : goal.returns
returns c = touches_rows
