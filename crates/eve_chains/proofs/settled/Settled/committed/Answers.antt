use Rattle.std.proofs.Common.{length, ap, sym, ◌∙◌}
use Rattle.eve_chains.specs.CommittedValues.{Settling}
use Rattle.eve_chains.proofs.ReachedChanges.{kept_counted}
use Rattle.eve_chains.proofs.settled.Settled.committed.Goals as goal

pub returns : goal.returns
returns c =
    let x = c.self.inside in
    sym (kept_counted (length x.opening) x.count x.transfers.items x.ways_reached.items x.ranges.items
    c.self.invariant.1)
    ∙ ap (λ (s : Settling). length s.numbers) c.self.view_is
