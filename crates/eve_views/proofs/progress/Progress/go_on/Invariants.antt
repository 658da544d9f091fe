use Rattle.std.proofs.Common.{◌-◌, length}
use Rattle.eve_views.specs.inner.SideBySide.{IsWalkedUnjudged, WalksOn}
use Rattle.eve_views.proofs.progress.Progress.go_on.Given as goal

abbrev pub invariant-frames : goal.invariant-frames
invariant-frames l = record {
  found : IsWalkedUnjudged l.fn.head l.bytes l.walked;
  kept : WalksOn l.fn.self l.walked;
}

abbrev pub decreases-frames : goal.decreases-frames
decreases-frames l = length l.bytes - l.walked.at
