use Rattle.eve_smallbank.proofs.Records.{refused_fits}
use Rattle.eve_smallbank.proofs.laws.refused_requests_fit.Goals as goal

pub returns : goal.returns
returns c = refused_fits
