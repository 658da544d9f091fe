use Rattle.eve_smallbank.proofs.SerialOrders.{serial}
use Rattle.eve_smallbank.proofs.laws.serial_order_from_chains.Goals as goal

pub returns : goal.returns
returns c = serial
