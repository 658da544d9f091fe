use Rattle.std.proofs.Common.{◌≡◌, List, [], length, take, drop, ◌++◌, sym, subst, ap, ◌∙◌, arith}
use Rattle.std.specs.List.{AllByRecursion}
use Rattle.std.specs.List.Sorted.{IsPermutation}
use Rattle.std.proofs.lemmas.List.Sorted.{IsPermutation-map}
use Rattle.eve_grammar.proofs.Lists.{whole_slice}
use Rattle.eve_stamps.specs.Applied.{Applied}
use Rattle.eve_attempts.specs.inner.RecordKeys.{Key, keys_from, record_of, records_in, IsKeyOf, TicksDontFall}
use Rattle.eve_attempts.proofs.TickOrder.{all_moved}
use Rattle.eve_attempts.proofs.Keys.{records_of_keys, are_keys, sorted_keys, ticks_dont_fall}
use Rattle.eve_attempts.proofs.order.order_of.Goals as goal

-- what the sorted vector holds
sorted_is : (c : goal.After-keys-3-1)
    → take c.in_ok-keys.keys.len
    (c.sort_unstable.new.self ++ drop (length c.sort_unstable.new.self) c.in_ok-keys.keys.items)
    ≡ c.sort_unstable.new.self
sorted_is c =
    let many = c.sort_unstable.ensures.len in
    let value : length c.as_mut_slice.result.now ≡ length c.in_ok-keys.keys.items =
    ap (λ (xs : List Key). length xs) c.as_mut_slice.ensures.value in
    let len = c.as_mut_slice.ensures.len in
    whole_slice c.in_ok-keys.keys.items c.sort_unstable.new.self c.in_ok-keys.keys.len (omega arith) (omega arith)

moved : (c : goal.After-keys-3-1) → IsPermutation (keys_from 0 c.args.records.now) c.sort_unstable.new.self
moved c = subst (λ (keys : List Key). IsPermutation keys c.sort_unstable.new.self)
    (c.as_mut_slice.ensures.value ∙ c.in_ok-keys.ensures) c.sort_unstable.ensures.permutation

there_are : (c : goal.After-keys-3-1) → AllByRecursion (IsKeyOf c.args.records.now) c.sort_unstable.new.self
there_are c = all_moved (IsKeyOf c.args.records.now) (keys_from 0 c.args.records.now) c.sort_unstable.new.self (moved c)
    (are_keys [] c.args.records.now)

pub returns-clause-same : goal.returns-clause-same
returns-clause-same c =
    let rs = c.args.records.now in
    subst (λ (keys : List Key). IsPermutation rs (records_in rs keys)) (sym (sorted_is c))
    (subst (λ (xs : List Applied). IsPermutation xs (records_in rs c.sort_unstable.new.self)) (records_of_keys [] rs)
    (IsPermutation-map (record_of rs) (keys_from 0 rs) c.sort_unstable.new.self (moved c)))

pub returns-clause-rising : goal.returns-clause-rising
returns-clause-rising c =
    let rs = c.args.records.now in
    subst (λ (keys : List Key). TicksDontFall (records_in rs keys)) (sym (sorted_is c))
    (ticks_dont_fall rs c.sort_unstable.new.self (there_are c)
    (sorted_keys c.sort_unstable.new.self (0, 0, 0)
    (λ i lt. c.sort_unstable.ensures.sorted i (0, 0, 0) (omega arith) lt)))

pub returns-clause-there : goal.returns-clause-there
returns-clause-there c = subst (AllByRecursion (IsKeyOf c.args.records.now)) (sym (sorted_is c)) (there_are c)
