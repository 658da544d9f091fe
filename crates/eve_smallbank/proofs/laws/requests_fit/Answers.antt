use Rattle.eve_smallbank.proofs.FittingRecords.{always_fits}
use Rattle.eve_smallbank.proofs.laws.requests_fit.Goals as goal

pub returns : goal.returns
returns c = always_fits
