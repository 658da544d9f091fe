use Rattle.std.proofs.Common.{◌<◌, ◌≤◌, ◌-◌, None, slice_get, length, sym, ap, ◌∙◌, arith}
use Rattle.eve_history.specs.declared.how_reached.HowReached.TheVariants as how_reached
use Rattle.eve_chains.specs.Changes.{ranges_by_number}
use Rattle.eve_chains.specs.CommittedValues.{Settling}
use Rattle.eve_chains.proofs.ReachedChanges.{none_past, change_kept, state_among, transferred_is_change, defined_at}
use Rattle.eve_chains.proofs.settled.Settled.defined.Goals as goal

pub returns-then-self-n : goal.returns-then-self-n
returns-then-self-n c =
    let x = c.self.inside in
    let n = c.args.n in
    let past : length x.ways_reached.items ≤ n - 1 = omega (arith, c.self.invariant.1.many, c.if-self-n.true) in
    sym (defined_at c.args.self.now n None (omega (arith, c.if-self-n.true))
    (ap (λ (s : Settling). slice_get s.numbers (n - 1)) (sym c.self.view_is)
    ∙ none_past x.transfers.items x.ways_reached.items
    (ranges_by_number x.count x.ranges.items) (n - 1) past))

pub returns-in-Attempt : goal.returns-in-Attempt
returns-in-Attempt c =
    let x = c.self.inside in
    let n = c.args.n in
    let one : 1 ≤ n = omega (arith, c.if-n-eq0.false) in
    let lt : n - 1 < x.count = omega (arith, one, c.if-self-n.false) in
    sym (defined_at c.args.self.now n _ one
    (ap (λ (s : Settling). slice_get s.numbers (n - 1)) (sym c.self.view_is)
    ∙ change_kept (length x.opening) x.count x.transfers.items x.ways_reached.items x.ranges.items (n - 1)
    c.index.result.now (how_reached.Attempt c.in-Attempt.field-0) c.self.invariant.1 lt
    c.index.ensures c.in-Attempt.is))

pub returns-in-Transfer : goal.returns-in-Transfer
returns-in-Transfer c =
    let x = c.self.inside in
    let n = c.args.n in
    let i = c.in-Transfer.field-0 in
    let one : 1 ≤ n = omega (arith, c.if-n-eq0.false) in
    let lt : n - 1 < x.count = omega (arith, one, c.if-self-n.false) in
    sym (defined_at c.args.self.now n _ one
    (ap (λ (s : Settling). slice_get s.numbers (n - 1)) (sym c.self.view_is)
    ∙ change_kept (length x.opening) x.count x.transfers.items x.ways_reached.items x.ranges.items (n - 1)
    c.index.result.now (how_reached.Transfer i) c.self.invariant.1 lt
    c.index.ensures c.in-Transfer.is)
    ∙ transferred_is_change x.transfers.items i
    (state_among (length x.opening) x.count x.transfers.items x.ways_reached.items (n - 1) i c.index.result.now
    c.self.invariant.1 lt c.index.ensures c.in-Transfer.is))

pub returns-in-Skipped : goal.returns-in-Skipped
returns-in-Skipped c =
    let x = c.self.inside in
    let n = c.args.n in
    let one : 1 ≤ n = omega (arith, c.if-n-eq0.false) in
    let lt : n - 1 < x.count = omega (arith, one, c.if-self-n.false) in
    sym (defined_at c.args.self.now n _ one
    (ap (λ (s : Settling). slice_get s.numbers (n - 1)) (sym c.self.view_is)
    ∙ change_kept (length x.opening) x.count x.transfers.items x.ways_reached.items x.ranges.items (n - 1)
    c.index.result.now how_reached.Skipped c.self.invariant.1 lt
    c.index.ensures c.in-Skipped.is))
