-- Eight places for seats, as a list.
use Rattle.std.specs.Prelude.{◌≡◌, ℕ, ◌<◌, List, [], ◌∷◌, Option, None, Some, IsSome, slice_get, slice_index_or}
use Rattle.eve_recorder.specs.declared.seat_table.SeatTable.{SeatTable}

abbrev pub seats_in_table : {T : Type 0} → SeatTable T → List (Option T)
seats_in_table r = r.s0 ∷ r.s1 ∷ r.s2 ∷ r.s3 ∷ r.s4 ∷ r.s5 ∷ r.s6 ∷ r.s7 ∷ []

-- what lies at each place, by its number
abbrev pub table_by : {A : Type 0} → (ℕ → Option A) → List (Option A)
table_by f = f 0 ∷ f 1 ∷ f 2 ∷ f 3 ∷ f 4 ∷ f 5 ∷ f 6 ∷ f 7 ∷ []

-- at each of the first n places a seat lies
abbrev pub HasBelow : {A : Type 0} → ℕ → List (Option A) → Type 0
HasBelow n places = (k : ℕ) → k < n → IsSome (slice_index_or places k None)

-- each seat that is there is one for the place at which it lies
abbrev pub AreSeated : {A : Type 0} → (ℕ → A → Type 0) → List (Option A) → Type 0
AreSeated {A} P places = (k : ℕ) (x : A) → slice_get places k ≡ Some (Some x) → P k x
