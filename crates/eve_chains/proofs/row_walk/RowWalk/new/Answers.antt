use Rattle.std.proofs.Common.{sym}
use Rattle.eve_chains.proofs.WalkedRows.{none_on_row}
use Rattle.eve_chains.proofs.row_walk.RowWalk.new.Goals as goal

pub returns : goal.returns
returns c e bases opening = record {
  pair = λ i. record { transferred = 0; view = 0; committed = sym opening i; working = sym opening i };
  first = none_on_row e bases;
}
