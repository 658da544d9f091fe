use Rattle.std.proofs.Common.{◌≡◌, ℕ, List, Option, Some, None, IfSome, sym, subst, arith}
use Rattle.std.specs.Prelude.{IfNone}
use Rattle.std.specs.List.Sorted.{IsPermutation}
use Rattle.eve_grammar.specs.Trace.{Trace}
use Rattle.eve_history.specs.Order.{HasDistinctRequests}
use Rattle.eve_views.specs.Order.{AreInOrder}
use Rattle.eve_history.specs.inner.Repeats.{arrivals_of, IsNoLaterArrival, NoneOccursTwice, IsFirstTwice, IsFirstRepeat}
use Rattle.eve_history.specs.declared.repeats.Arrival.{Arrival}
use Rattle.eve_history.proofs.SortedRequests.{in_order}
use Rattle.eve_history.proofs.AllRequests.{none_twice_apart, first_twice_repeat}
use Rattle.eve_history.proofs.repeats.first_repeat.Goals as goal

pub first_twice-requires : goal.first_twice-requires
first_twice-requires c = subst (AreInOrder IsNoLaterArrival) (sym c.deref.ensures.value)
    (in_order c.sort_unstable.new.self.items (λ k d less. c.sort_unstable.ensures.sorted k d (omega arith) less))

module _ (t : Trace) (xs ys : List Arrival) (from : xs ≡ arrivals_of t) (moved : IsPermutation xs ys) where
  moved_all : IsPermutation (arrivals_of t) ys
  moved_all = subst (λ (zs : List Arrival). IsPermutation zs ys) from moved

  none_of : (o : Option ℕ) → IfNone o (NoneOccursTwice ys) → IfNone o (HasDistinctRequests t)
  none_of None none = none_twice_apart t ys moved_all none
  none_of (Some n) none = tt

  first_of : (o : Option ℕ) → IfSome o (IsFirstTwice ys) → IfSome o (IsFirstRepeat t)
  first_of None first = tt
  first_of (Some n) first = first_twice_repeat t ys moved_all n first

pub returns-clause-none : goal.returns-clause-none
returns-clause-none c =
    let ys = c.sort_unstable.new.self.items in
    none_of c.args.trace.now c.in_ok-arrivals.arrivals.items ys c.in_ok-arrivals.ensures
    c.sort_unstable.ensures.permutation c.first_twice.result
    (subst (λ (zs : List Arrival). IfNone c.first_twice.result (NoneOccursTwice zs)) c.deref.ensures.value
    c.first_twice.ensures.none)

pub returns-clause-first : goal.returns-clause-first
returns-clause-first c =
    let ys = c.sort_unstable.new.self.items in
    first_of c.args.trace.now c.in_ok-arrivals.arrivals.items ys c.in_ok-arrivals.ensures
    c.sort_unstable.ensures.permutation c.first_twice.result
    (subst (λ (zs : List Arrival). IfSome c.first_twice.result (IsFirstTwice zs)) c.deref.ensures.value
    c.first_twice.ensures.first)
