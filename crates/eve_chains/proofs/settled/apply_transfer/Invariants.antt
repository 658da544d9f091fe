use Rattle.std.proofs.Common.{◌≡◌, length, map, take}
use Rattle.eve_frames.specs.Decoded.{transfer_decoded}
use Rattle.eve_chains.proofs.settled.apply_transfer.Given as goal

abbrev pub invariant-loop-i : goal.invariant-loop-i
invariant-loop-i g l = record {
  as_many : length (g.T.SetRow.rows l.rows) ≡ length (g.T.SetRow.rows l.fn.rows);
  written : take l.i (g.T.SetRow.rows l.rows) ≡ map (λ v. v.value) (take l.i (transfer_decoded l.state).rows);
}
