use Rattle.std.proofs.Common.{◌≡◌, map, take}
use Rattle.eve_chains.specs.ReachedChanges.{transfer_at}
use Rattle.eve_chains.proofs.settled.transfers_of.Given as goal

abbrev pub invariant-loop-i : goal.invariant-loop-i
invariant-loop-i l = map transfer_at l.transfers.items ≡ take l.i l.history.transfers
