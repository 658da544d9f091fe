use Rattle.std.proofs.Common.{◌≡◌, ℕ, ℤ, ◌*◌, List, length, sym, subst, ap, ◌∙◌, arith}
use Rattle.std.specs.Prelude.{All}
use Rattle.std.proofs.lemmas.List.{length-map}
use Rattle.std.proofs.lemmas.List.Elements.{All-from_recursion}
use Rattle.eve_grammar.specs.Trace.{head_of}
use Rattle.eve_grammar.proofs.HeadLimits.{few_customers}
use Rattle.eve_grammar.proofs.OpeningRows.{length-opening_rows}
use Rattle.eve_chains.specs.Changes.{ranges_by_number}
use Rattle.eve_chains.specs.ReachedChanges.{transfer_at, HasRows, IsStateAmong}
use Rattle.eve_chains.specs.Numbered.{HasNumbersTo}
use Rattle.eve_chains.specs.CommittedValues.{settling}
use Rattle.eve_chains.proofs.CommittedChanges.{ranges_are, ranges_reach, ways_reached_counted}
use Rattle.eve_chains.proofs.ReachedChanges.{told_counted, told_among, numbers_told}
use Rattle.eve_chains.proofs.TransferredRows.{views_have_rows}
use Rattle.eve_chains.proofs.settled.Settled.of.Goals as goal

pub invariant_of-result : goal.invariant_of-result
invariant_of-result c =
    let t = c.args.section.trace.now in
    let h = c.args.section.history.now in
    let states = c.in_ok-transfers.transfers.items in
    let right = c.recall_right.ensures.section t h.replica c.requires.told in
    let reached = c.numbers_are_reached.ensures.count in
    let count = c.committed.ensures.count ∙ ways_reached_counted t h.replica h right reached c.requires.told in
    let rows : length c.args.opening ≡ 2 * length t.customers =
    ap (λ (xs : List ℤ). length xs) c.requires.opening ∙ length-opening_rows t.customers in
    let many : length h.transfers ≡ length states =
    ap length (sym c.in_ok-transfers.ensures) ∙ length-map states transfer_at in (
      subst (λ (k : ℕ). All (HasNumbersTo k c.committed.result) c.args.ranges.items) (sym rows)
          (subst (λ (n : ℕ). All (HasNumbersTo (2 * length t.customers) n) c.args.ranges.items) (sym count)
          (ranges_reach t h.replica c.args.ranges.items c.requires.ranges)),
      record {
        many = told_counted h c.in_ok-ways_reached.ways_reached.items h.ways_reached c.in_ok-ways_reached.ensures
            ∙ sym c.committed.ensures.count;
        there = All-from_recursion (IsStateAmong (length states)) c.in_ok-ways_reached.ways_reached.items
            (told_among h (length states) c.in_ok-ways_reached.ways_reached.items h.ways_reached
            c.in_ok-ways_reached.ensures many);
        whole = subst (λ (n : ℕ). All (HasRows n) states) (sym rows)
            (views_have_rows t h.replica h states c.recall_limits.ensures c.requires.told c.in_ok-transfers.ensures);
        few = omega (arith, rows, few_customers (head_of t) c.recall_limits.ensures.head);
      },
    )

pub returns : goal.returns
unfolding settling
returns c =
    let t = c.args.section.trace.now in
    let h = c.args.section.history.now in
    let right = c.recall_right.ensures.section t h.replica c.requires.told in
    let reached = c.numbers_are_reached.ensures.count in
    let count = c.committed.ensures.count ∙ ways_reached_counted t h.replica h right reached c.requires.told in
    let wrote = ap (λ (n : ℕ). ranges_by_number n c.args.ranges.items) count
    ∙ ranges_are t h.replica right c.args.ranges.items c.requires.ranges in
    let numbers = numbers_told t h c.in_ok-transfers.transfers.items h.replica c.in_ok-ways_reached.ways_reached.items
    (ranges_by_number c.committed.result c.args.ranges.items) c.requires.told c.in_ok-transfers.ensures
    c.in_ok-ways_reached.ensures wrote in
    λ i. record { opening = c.requires.opening i; numbers = numbers i }
