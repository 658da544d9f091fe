use Rattle.std.proofs.Common.{subst}
use Rattle.eve_views.specs.HeldTraces.{IsHeldTrace}
use Rattle.eve_views.proofs.IndexedParts.{sent_starts}
use Rattle.eve_views.proofs.trace.Trace.sent_from.Goals as goal

pub returns : goal.returns
returns c =
    let held = subst (IsHeldTrace c.self.inside.bytes.now c.self.inside.head c.self.inside.index)
    c.self.view_is
    c.self.invariant in
    sent_starts c.args.self.now c.self.inside.index.starts held.starts
