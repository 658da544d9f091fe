-- One more request is put into a group.
use Rattle.std.proofs.Common.{◌≡◌, ℕ, ◌+◌, ◌<◌, ◌≤◌, true, false, List, [], ◌∷◌, ◌++◌, Vec, Global, length, sym}
use Rattle.std.proofs.Common.{ap, subst, ◌∙◌, arith}
use Rattle.std.specs.Prelude.{◌==◌, ◌&&◌, ◌||◌, slice_index_or}
use Rattle.std.specs.List.{list_any}
use Rattle.std.proofs.lemmas.List.{length-map, length_push}
use Rattle.eve_smallbank.specs.declared.entry.Kind.{Kind}
use Rattle.eve_smallbank.specs.Access.{RowKinds}
use Rattle.eve_workload.specs.declared.group_set.GroupSet.{GroupSet}
use Rattle.eve_workload.specs.declared.marks.RowMarks.{RowMarks}
use Rattle.eve_workload.specs.declared.seats.Seat.{Seat}
use Rattle.eve_workload.specs.declared.cut.Cut.{Cut}
use Rattle.eve_workload.specs.Mixers.{collide, share, placed}
use Rattle.eve_workload.specs.inner.GroupSets.{has}
use Rattle.eve_workload.specs.inner.Marks.{is_barred}
use Rattle.eve_workload.specs.inner.Seats.{group_at, IsSeating}
use Rattle.eve_workload.specs.inner.Groups.{share_at}
use Rattle.eve_workload.specs.inner.Cut.{one_more, IsCut}
use Rattle.eve_workload.proofs.PlacedItems.{put, put_count, placed_first, first_within, any_shared, bars_more}
use Rattle.eve_workload.proofs.PlacedItems.{size_small}
use Rattle.eve_workload.proofs.PlacedItems.{seated_more}

module _ (cut : Cut) (touched : RowKinds) (rows : ℕ → RowKinds) (groups : List (List ℕ))
    (next : rows (length cut.seats.items) ≡ touched) (is : IsCut cut rows groups) where
  -- the next request
  abbrev item : ℕ
  item = length cut.seats.items

  module _ (barred : GroupSet)
      (barred_is : (g : ℕ) → has barred g ≡ list_any (λ row. is_barred cut.marks row g) touched) where
    -- the request is barred from the groups that hold one in conflict with it
    in_conflict : (g : ℕ) → list_any (share_at rows item) (group_at groups g) ≡ has barred g
    in_conflict g =
        sym (barred_is g ∙ (λ i. list_any (λ row. is.bars row g i) touched)
        ∙ any_shared touched rows (group_at groups g)
        ∙ (λ i. list_any (λ j. share (sym next i) (rows j)) (group_at groups g)))

    module _ (g : ℕ) (absent : has barred g ≡ false) (before : (k : ℕ) → k < g → has barred k ≡ true) where
      pub within : g ≤ length groups
      within = first_within (share_at rows) groups item g (λ k below. in_conflict k ∙ before k below)

      pub within_sizes : g ≤ length cut.sizes.items
      within_sizes =
          let same : length cut.sizes.items ≡ length groups = ap length is.seating.sizes_are
          ∙ length-map groups length in
          omega (arith, within, same)

      pub below_count : g ≤ length cut.seats.items
      below_count = omega (arith, within, is.few)

      pub small : slice_index_or cut.sizes.items g 0 ≤ length cut.seats.items
      small = size_small cut.sizes.items cut.seats.items groups is.seating g

      is_first : placed (share_at rows) groups item ≡ put groups g item
      is_first = placed_first (share_at rows) groups item g (λ k below. in_conflict k ∙ before k below)
          (in_conflict g ∙ absent)

      pub cut_more : (marks : RowMarks) (sizes : Vec ℕ Global) (seats : Vec Seat Global)
          → length marks.marks.items ≤ length cut.marks.marks.items + 3
          → ((row : ℕ × Kind) (other : ℕ) → is_barred marks row other
          ≡ (is_barred cut.marks row other || (list_any (collide row) touched && (other == g)))) → sizes.items
          ≡ one_more cut.sizes.items g → seats.items
          ≡ cut.seats.items ++ record { group = g; place = slice_index_or cut.sizes.items g 0 } ∷ []
          → IsCut record { marks = marks; sizes = sizes; seats = seats } rows (placed (share_at rows) groups item)
      cut_more marks sizes seats three marked sizes_are seats_are =
          let seat : Seat = record { group = g; place = slice_index_or cut.sizes.items g 0 } in
          let seated : IsSeating (one_more cut.sizes.items g) (cut.seats.items ++ seat ∷ []) (put groups g item) =
          seated_more cut.sizes.items cut.seats.items groups is.seating (share_at rows) g within is_first in
          subst (λ gs. IsCut record { marks = marks; sizes = sizes; seats = seats } rows gs) (sym is_first) record {
            bars = λ row k. marked row k ∙ (λ i. is.bars row k i || (list_any (collide row) (sym next i) && (k == g)))
                ∙ bars_more rows groups g item within row k;
            seating =
                subst (λ ss. IsSeating ss seats.items (put groups g item)) (sym sizes_are)
                (subst (λ ss. IsSeating (one_more cut.sizes.items g) ss (put groups g item)) (sym seats_are) seated);
            few =
                (let most = put_count groups g item in
                let long = ap length seats_are ∙ length_push cut.seats.items seat in
                omega (arith, most, long, is.few));
            few_marks =
                (let long = ap length seats_are ∙ length_push cut.seats.items seat in
                omega (arith, three, long, is.few_marks));
          }
