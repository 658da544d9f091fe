use Rattle.std.proofs.Common.{◌≡◌, ◌-◌, ◌<◌, ◌≤◌, true, length}
use Rattle.eve_grammar.specs.Frames.{is_allowed}
use Rattle.eve_views.specs.inner.SideBySide.{IsWalkedUnjudged, WalksOn}
use Rattle.eve_views.proofs.progress.Progress.pass_accesses.Given as goal

abbrev pub invariant-frames : goal.invariant-frames
invariant-frames l = record {
  walked : IsWalkedUnjudged l.fn.head l.bytes l.self;
  kept : WalksOn l.initial.self l.self;
  on : l.initial.self.at ≤ l.self.at;
  allowed : 0 < l.self.reached.place.accesses → is_allowed l.self.reached.head l.self.reached.place 18 ≡ true;
}

abbrev pub decreases-frames : goal.decreases-frames
decreases-frames l = length l.bytes - l.self.at
