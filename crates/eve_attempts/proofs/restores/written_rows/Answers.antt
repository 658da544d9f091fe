use Rattle.std.proofs.Common.{◌≡◌, ℕ, ◌+◌, ◌<◌, ◌++◌, List, [], length, take, drop, sym, subst, ap, ◌∙◌, append-nil}
use Rattle.std.proofs.Common.{append_assoc, arith}
use Rattle.std.specs.List.{AllByRecursion}
use Rattle.std.specs.List.Sorted.{IsPermutation, IsNonDecreasing}
use Rattle.std.proofs.lemmas.List.{drop_all, map-append}
use Rattle.std.proofs.lemmas.List.Sorted.{IsNonDecreasingBy-from_sort}
use Rattle.eve_smallbank.specs.declared.entry.Entry.{Entry}
use Rattle.eve_grammar.proofs.Lists.{whole_slice}
use Rattle.eve_attempts.specs.Ledgers.{Opened, writes_in}
use Rattle.eve_attempts.specs.inner.RestoredRows.{entry_rows}
use Rattle.eve_attempts.proofs.Lists.{drop_read}
use Rattle.eve_attempts.proofs.TickOrder.{all_moved}
use Rattle.eve_attempts.proofs.restores.written_rows.Goals as goal

-- what the sorted vector holds
sorted_is : (c : goal.After-rows-3-1)
    → take c.loop-open.rows.len
    (c.sort_unstable.new.self ++ drop (length c.sort_unstable.new.self) c.loop-open.rows.items)
    ≡ c.sort_unstable.new.self
sorted_is c =
    let many = c.sort_unstable.ensures.len in
    let value : length c.as_mut_slice.result.now ≡ length c.loop-open.rows.items =
    ap (λ (xs : List ℕ). length xs) c.as_mut_slice.ensures.value in
    let len = c.as_mut_slice.ensures.len in
    whole_slice c.loop-open.rows.items c.sort_unstable.new.self c.loop-open.rows.len (omega arith) (omega arith)

pub loop-open-preserved : goal.loop-open-preserved
loop-open-preserved c =
    let os = c.args.opened.now in
    let k = c.loop-open.open-index in
    let o = c.open-item.result in
    let written : c.as_slice.result.now ≡ o.written = c.as_slice.ensures.value
    ∙ ap (λ (p : Opened). p.written) c.open.view_is in
    record {
      rows = ap (λ (xs : List ℕ). xs ++ entry_rows (writes_in (drop (k + 1) os)))
          (c.in_ok-append_rows.ensures.rows ∙ ap (λ (es : List Entry). c.loop-open.rows.items ++ entry_rows es) written)
          ∙ append_assoc c.loop-open.rows.items (entry_rows o.written) (entry_rows (writes_in (drop (k + 1) os)))
          ∙ ap (λ (xs : List ℕ). c.loop-open.rows.items ++ xs)
          (sym (map-append (λ (e : Entry). e.row) o.written (writes_in (drop (k + 1) os))))
          ∙ ap (λ (ps : List Opened). c.loop-open.rows.items ++ entry_rows (writes_in ps))
          (sym (drop_read os k o c.loop-open-test.true c.open-item.is)) ∙ c.loop-open.invariant.rows;
      small = c.in_ok-append_rows.ensures.small;
    }

pub returns-clause-rows : goal.returns-clause-rows
returns-clause-rows c =
    let none : writes_in (drop c.loop-open.open-index c.args.opened.now) ≡ [] =
    ap writes_in (drop_all c.loop-open.open-index c.args.opened.now c.loop-open-test.false) in
    let is : c.as_mut_slice.result.now ≡ entry_rows (writes_in c.args.opened.now) =
    c.as_mut_slice.ensures.value ∙ sym (append-nil c.loop-open.rows.items)
    ∙ ap (λ (es : List Entry). c.loop-open.rows.items ++ entry_rows es) (sym none) ∙ c.loop-open.invariant.rows in
    subst (IsPermutation (entry_rows (writes_in c.args.opened.now))) (sym (sorted_is c))
    (subst (λ (xs : List ℕ). IsPermutation xs c.sort_unstable.new.self) is c.sort_unstable.ensures.permutation)

pub returns-clause-rising : goal.returns-clause-rising
returns-clause-rising c = subst IsNonDecreasing (sym (sorted_is c))
    (IsNonDecreasingBy-from_sort (λ (x : ℕ). x) c.sort_unstable.new.self c.sort_unstable.ensures.sorted)

pub returns-clause-small : goal.returns-clause-small
returns-clause-small c =
    subst (AllByRecursion (λ row. row < 131072)) (sym (sorted_is c))
    (all_moved (λ (row : ℕ). row < 131072) c.as_mut_slice.result.now c.sort_unstable.new.self
    c.sort_unstable.ensures.permutation
    (subst (AllByRecursion (λ row. row < 131072)) (sym c.as_mut_slice.ensures.value) c.loop-open.invariant.small))
