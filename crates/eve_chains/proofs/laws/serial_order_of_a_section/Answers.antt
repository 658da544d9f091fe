use Rattle.eve_chains.proofs.SerialSections.{serial_between, leads_from_opening}
use Rattle.eve_chains.proofs.laws.serial_order_of_a_section.Goals as goal

pub returns : goal.returns
returns c = record { each = serial_between; all = leads_from_opening }
