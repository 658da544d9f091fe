use Rattle.eve_chains.proofs.SerialSections.{reordering_at}
use Rattle.eve_chains.proofs.laws.each_order_of_the_indexes_is_a_reordering.Goals as goal

pub returns : goal.returns
returns c = reordering_at
