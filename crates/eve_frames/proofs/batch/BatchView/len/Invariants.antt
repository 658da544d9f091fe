use Rattle.std.proofs.Common.{◌≡◌, take, sum}
use Rattle.eve_frames.specs.Views.{batch_in}
use Rattle.eve_frames.proofs.batch.BatchView.len.Given as goal

-- the sum of the sizes so far
abbrev pub invariant-loop-i : goal.invariant-loop-i
invariant-loop-i l = l.total ≡ sum (take l.i (batch_in l.self.bytes.now).1.sizes)
