use Rattle.eve_views.proofs.PartOrder.{stand_in_order}
use Rattle.eve_views.proofs.laws.parts_stand_in_order.Goals as goal

pub returns : goal.returns
returns c = stand_in_order
