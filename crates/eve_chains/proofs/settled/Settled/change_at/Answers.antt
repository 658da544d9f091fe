use Rattle.std.proofs.Common.{◌≡◌, ◌<◌, ◌-◌, ℕ, List, Some, slice_get, length, sym, subst, ap, ◌∙◌, arith, rules}
use Rattle.eve_history.specs.declared.how_reached.HowReached.TheVariants as how_reached
use Rattle.eve_chains.specs.Changes.{changes_in_ranges}
use Rattle.std.specs.Prelude.{All}
use Rattle.eve_chains.specs.ReachedChanges.{HasRows}
use Rattle.eve_chains.specs.Numbered.{HasNumbersTo}
use Rattle.eve_chains.proofs.SetRows.{reach_fewer}
use Rattle.eve_chains.specs.CommittedValues.{Wrote, Settling}
use Rattle.eve_chains.specs.declared.numbered.Numbered.{Numbered}
use Rattle.eve_chains.proofs.ReachedChanges.{kept_counted, change_kept, state_among, state_is}
use Rattle.eve_chains.proofs.settled.Settled.change_at.Goals as goal

pub index-requires : goal.index-requires
index-requires c =
    let x = c.self.inside in
    let count : x.count ≡ length c.args.self.now.numbers =
    sym (kept_counted (length x.opening) x.count x.transfers.items x.ways_reached.items x.ranges.items
    c.self.invariant.1)
    ∙ ap (λ (s : Settling). length s.numbers) c.self.view_is in
    let lt : c.args.n - 1 < length x.ways_reached.items =
    omega (arith, c.self.invariant.1.many, count, c.requires.one, c.requires.there) in
    search rules

pub index-requires-in-Transfer : goal.index-requires-in-Transfer
index-requires-in-Transfer c =
    let x = c.self.inside in
    let n = c.args.n in
    let count : x.count ≡ length c.args.self.now.numbers =
    sym (kept_counted (length x.opening) x.count x.transfers.items x.ways_reached.items x.ranges.items
    c.self.invariant.1)
    ∙ ap (λ (s : Settling). length s.numbers) c.self.view_is in
    let lt : c.in-Transfer.i < length x.transfers.items =
    state_among (length x.opening) x.count x.transfers.items x.ways_reached.items (n - 1) c.in-Transfer.i
    c.index.result.now c.self.invariant.1 (omega (arith, count, c.requires.one, c.requires.there)) c.index.ensures
    c.in-Transfer.is in
    search rules

pub returns-in-Attempt-clause-says : goal.returns-in-Attempt-clause-says
returns-in-Attempt-clause-says c =
    let x = c.self.inside in
    let n = c.args.n in
    let count : x.count ≡ length c.args.self.now.numbers =
    sym (kept_counted (length x.opening) x.count x.transfers.items x.ways_reached.items x.ranges.items
    c.self.invariant.1)
    ∙ ap (λ (s : Settling). length s.numbers) c.self.view_is in
    ap (λ (s : Settling). slice_get s.numbers (n - 1)) (sym c.self.view_is)
    ∙ change_kept (length x.opening) x.count x.transfers.items x.ways_reached.items x.ranges.items (n - 1)
    c.index.result.now (how_reached.Attempt c.in-Attempt.field-0) c.self.invariant.1
    (omega (arith, count, c.requires.one, c.requires.there)) c.index.ensures c.in-Attempt.is
    ∙ ap (λ (xs : List Numbered). Some (Wrote (changes_in_ranges (n - 1) xs))) (sym c.deref.ensures.value)

pub returns-in-Attempt-clause-rows : goal.returns-in-Attempt-clause-rows
returns-in-Attempt-clause-rows c =
    let x = c.self.inside in
    let rows : length x.opening ≡ length c.args.self.now.opening =
    ap (λ (s : Settling). length s.opening) c.self.view_is in
    let count : x.count ≡ length c.args.self.now.numbers =
    sym (kept_counted (length x.opening) x.count x.transfers.items x.ways_reached.items x.ranges.items
    c.self.invariant.1)
    ∙ ap (λ (s : Settling). length s.numbers) c.self.view_is in
    subst (λ (xs : List Numbered). All (HasNumbersTo (length c.args.self.now.opening) c.args.n) xs)
    (sym c.deref.ensures.value)
    (subst (λ (k : ℕ). All (HasNumbersTo k c.args.n) x.ranges.items) rows
    (reach_fewer (length x.opening) x.count c.args.n x.ranges.items c.self.invariant.0
    (omega (arith, count, c.requires.there))))

pub returns-in-Transfer-clause-says : goal.returns-in-Transfer-clause-says
returns-in-Transfer-clause-says c =
    let x = c.self.inside in
    let n = c.args.n in
    let i = c.in-Transfer.i in
    let count : x.count ≡ length c.args.self.now.numbers =
    sym (kept_counted (length x.opening) x.count x.transfers.items x.ways_reached.items x.ranges.items
    c.self.invariant.1)
    ∙ ap (λ (s : Settling). length s.numbers) c.self.view_is in
    let within : n - 1 < x.count = omega (arith, count, c.requires.one, c.requires.there) in
    ap (λ (s : Settling). slice_get s.numbers (n - 1)) (sym c.self.view_is)
    ∙ change_kept (length x.opening) x.count x.transfers.items x.ways_reached.items x.ranges.items (n - 1)
    c.index.result.now (how_reached.Transfer i) c.self.invariant.1 within
    c.index.ensures c.in-Transfer.is
    ∙ ap Some (state_is x.transfers.items i c.index-in-Transfer.result.now
    (state_among (length x.opening) x.count x.transfers.items x.ways_reached.items (n - 1) i
    c.index.result.now c.self.invariant.1 within c.index.ensures c.in-Transfer.is) c.index-in-Transfer.ensures)

pub returns-in-Transfer-clause-rows : goal.returns-in-Transfer-clause-rows
returns-in-Transfer-clause-rows c =
    let x = c.self.inside in
    let n = c.args.n in
    let i = c.in-Transfer.i in
    let v = c.index-in-Transfer.result.now in
    let count : x.count ≡ length c.args.self.now.numbers =
    sym (kept_counted (length x.opening) x.count x.transfers.items x.ways_reached.items x.ranges.items
    c.self.invariant.1)
    ∙ ap (λ (s : Settling). length s.numbers) c.self.view_is in
    let there : i < length x.transfers.items =
    state_among (length x.opening) x.count x.transfers.items x.ways_reached.items (n - 1) i c.index.result.now
    c.self.invariant.1 (omega (arith, count, c.requires.one, c.requires.there)) c.index.ensures c.in-Transfer.is in
    let rows : length x.opening ≡ length c.args.self.now.opening =
    ap (λ (s : Settling). length s.opening) c.self.view_is in (
      subst (HasRows (length x.opening)) (sym c.index-in-Transfer.ensures) (c.self.invariant.1.whole i v there) ∙ rows,
      omega (arith, rows, c.self.invariant.1.few),
    )

pub returns-in-Skipped-clause-says : goal.returns-in-Skipped-clause-says
returns-in-Skipped-clause-says c =
    let x = c.self.inside in
    let n = c.args.n in
    let count : x.count ≡ length c.args.self.now.numbers =
    sym (kept_counted (length x.opening) x.count x.transfers.items x.ways_reached.items x.ranges.items
    c.self.invariant.1)
    ∙ ap (λ (s : Settling). length s.numbers) c.self.view_is in
    ap (λ (s : Settling). slice_get s.numbers (n - 1)) (sym c.self.view_is)
    ∙ change_kept (length x.opening) x.count x.transfers.items x.ways_reached.items x.ranges.items (n - 1)
    c.index.result.now how_reached.Skipped c.self.invariant.1
    (omega (arith, count, c.requires.one, c.requires.there)) c.index.ensures c.in-Skipped.is
