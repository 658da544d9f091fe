use Rattle.std.proofs.Common.{◌≡◌, ◌<◌, ◌+◌, ℕ, List, [], Bool, All, length, sym, ap, subst, ◌∙◌, arith}
use Rattle.std.specs.Prelude.{IsPermutation, slice_index_or}
use Rattle.std.specs.List.{flat_map, range_with_len}
use Rattle.std.proofs.lemmas.List.{get_or_default}
use Rattle.std.proofs.lemmas.List.Sorted.{All-permutation}
use Rattle.eve_smallbank.specs.declared.request.Abort.TheVariants.{NoSuchName}
use Rattle.eve_smallbank.specs.declared.rows.Touched.{Touched}
use Rattle.eve_smallbank.specs.declared.rows.Touched.TheVariants.{Refused}
use Rattle.eve_smallbank.specs.Access.{RowKinds}
use Rattle.eve_smallbank.specs.Touch.{rows_in}
use Rattle.eve_workload.specs.declared.seats.Seat.{Seat}
use Rattle.eve_workload.specs.declared.cut.Cut.{Cut}
use Rattle.eve_workload.specs.Mixers.{placed, first_fit}
use Rattle.eve_workload.specs.inner.Seats.{IsSeating}
use Rattle.eve_workload.specs.inner.Groups.{rows_at, share_at, AreGroups}
use Rattle.eve_workload.specs.inner.Cut.{IsCut}
use Rattle.eve_workload.proofs.Ranges.{range-push, range_within}
use Rattle.eve_workload.proofs.Cuts.{first_fit-push, first_fit_keeps}
use Rattle.eve_workload.proofs.groups.first_fit.Goals as goal

-- the groups of the first requests
abbrev groups_of : List Touched → ℕ → List (List ℕ)
groups_of touched n = first_fit (share_at (rows_at touched)) [] (range_with_len 0 n)

next : (touched : List Touched) (index count : ℕ) (request : Touched) (rows : RowKinds)
    → request ≡ slice_index_or touched index request → rows ≡ rows_in request → count ≡ index → index < length touched
    → rows_at touched count ≡ rows
next touched index count request rows request_is rows_is count_is there =
    ap (rows_at touched) count_is
    ∙ ap rows_in (get_or_default touched index (Refused NoSuchName) request there ∙ sym request_is) ∙ sym rows_is

seated : (cut : Cut) (rows : ℕ → RowKinds) (groups : List (List ℕ)) (sizes : List ℕ) (seats : List Seat)
    → sizes ≡ cut.sizes.items → seats ≡ cut.seats.items → IsCut cut rows groups → IsSeating sizes seats groups
seated cut rows groups sizes seats sizes_are seats_are is =
    subst (λ ss. IsSeating ss seats groups) (sym sizes_are)
    (subst (λ ss. IsSeating cut.sizes.items ss groups) (sym seats_are) is.seating)

pub loop-request-init : goal.loop-request-init
loop-request-init c =
    let empty = c.clear.ensures (rows_at c.args.touched.now) in (sym empty.seating.count, empty)

pub place-requires-clause-cut : goal.place-requires-clause-cut
place-requires-clause-cut c =
    let touched : List Touched = c.args.touched.now in (
      rows_at touched,
      groups_of touched c.loop-request.request-index,
      next touched c.loop-request.request-index (length c.loop-request.cut.seats.items) c.request-item.result
          c.rows.result c.request-item.is c.rows.ensures c.loop-request.invariant.0 c.loop-request-test.true,
      c.loop-request.invariant.1,
    )

pub loop-request-preserved : goal.loop-request-preserved
loop-request-preserved c =
    let touched : List Touched = c.args.touched.now in
    let index : ℕ = c.loop-request.request-index in
    let clash : ℕ → ℕ → Bool = share_at (rows_at touched) in
    let more : placed clash (groups_of touched index) (length c.loop-request.cut.seats.items)
    ≡ groups_of touched (index + 1) =
    ap (placed clash (groups_of touched index)) c.loop-request.invariant.0
    ∙ sym (first_fit-push clash [] (range_with_len 0 index) index)
    ∙ ap (first_fit clash []) (sym (range-push index)) in (
      c.in_ok-place.ensures.count ∙ ap (λ n. n + 1) c.loop-request.invariant.0,
      subst (λ gs. IsCut c.place.new.self (rows_at touched) gs) more
          (c.in_ok-place.ensures.cut (rows_at touched) (groups_of touched index)
          (next touched index (length c.loop-request.cut.seats.items) c.request-item.result c.rows.result
          c.request-item.is c.rows.ensures c.loop-request.invariant.0 c.loop-request-test.true)
          c.loop-request.invariant.1),
    )

pub in_order-requires-clause-seated : goal.in_order-requires-clause-seated
in_order-requires-clause-seated c =
    let groups : List (List ℕ) = groups_of c.args.touched.now c.loop-request.request-index in (
      groups,
      seated c.loop-request.cut (rows_at c.args.touched.now) groups c.as_slice.result.now c.as_slice-2.result.now
          c.as_slice.ensures.value c.as_slice-2.ensures.value c.loop-request.invariant.1,
    )

pub returns-clause-groups : goal.returns-clause-groups
returns-clause-groups c =
    let touched : List Touched = c.args.touched.now in
    let groups : List (List ℕ) = groups_of touched c.loop-request.request-index in
    let end : c.loop-request.request-index ≡ length touched = omega arith in
    let copied : c.in_ok-sizes.sizes.items ≡ c.loop-request.cut.sizes.items =
    c.in_ok-sizes.ensures.items_if_clones_equal (λ x y e. e) ∙ c.deref.ensures.value in
    subst (λ n. AreGroups c.in_ok-sizes.sizes.items c.in_ok-order.order.items (groups_of touched n)) end record {
      sizes_are = copied ∙ c.loop-request.invariant.1.seating.sizes_are;
      order_is = c.in_ok-order.ensures groups
          (seated c.loop-request.cut (rows_at touched) groups c.as_slice.result.now c.as_slice-2.result.now
          c.as_slice.ensures.value c.as_slice-2.ensures.value c.loop-request.invariant.1);
    }

pub returns-clause-within : goal.returns-clause-within
returns-clause-within c =
    let touched : List Touched = c.args.touched.now in
    let n : ℕ = length touched in
    let kept : IsPermutation (range_with_len 0 n) (flat_map (λ group. group) (groups_of touched n)) =
    first_fit_keeps (share_at (rows_at touched)) [] (range_with_len 0 n) in
    subst (λ (xs : List ℕ). All (λ i. i < n) xs) (sym (returns-clause-groups c).order_is)
    (All-permutation (λ i. i < n) (range_with_len 0 n) (flat_map (λ group. group) (groups_of touched n)) kept
    (range_within n))
