use Rattle.eve_chains.proofs.DistinctRequests.{once}
use Rattle.eve_chains.proofs.Arrivals.{request_ids_apart}
use Rattle.eve_chains.proofs.laws.requests_take_effect_once.Goals as goal

pub returns : goal.returns
returns c = record { once = once; apart = request_ids_apart }
