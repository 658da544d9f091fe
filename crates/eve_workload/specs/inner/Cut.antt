-- What is known while requests are put into groups.
use Rattle.std.specs.Prelude.{◌≡◌, ℕ, ◌+◌, ◌*◌, ◌≤◌, List, [], ◌∷◌, length, zero, suc}
use Rattle.std.specs.List.{list_any, flat_map}
use Rattle.eve_smallbank.specs.declared.entry.Kind.{Kind}
use Rattle.eve_smallbank.specs.Access.{RowKinds}
use Rattle.eve_workload.specs.declared.cut.Cut.{Cut}
use Rattle.eve_workload.specs.Mixers.{collide}
use Rattle.eve_workload.specs.inner.Marks.{is_barred}
use Rattle.eve_workload.specs.inner.Seats.{group_at, IsSeating}

-- sizes with one more item in a group, or in a new one at the end
abbrev pub one_more : List ℕ → ℕ → List ℕ
one_more [] group = 1 ∷ []
one_more (size ∷ sizes) zero = (size + 1) ∷ sizes
one_more (size ∷ sizes) (suc group) = size ∷ one_more sizes group

-- The requests stand in these groups, and the marks say of each row in which of them it is in conflict. There are no
-- more groups than requests, and no more marks than three rows of each.
pub record IsCut (cut : Cut) (rows : ℕ → RowKinds) (groups : List (List ℕ)) : Type 0 where
  pub bars : (row : ℕ × Kind) (group : ℕ)
      → is_barred cut.marks row group ≡ list_any (collide row) (flat_map rows (group_at groups group))
  pub seating : IsSeating cut.sizes.items cut.seats.items groups
  pub few : length groups ≤ length cut.seats.items
  pub few_marks : length cut.marks.marks.items ≤ 3 * length cut.seats.items
