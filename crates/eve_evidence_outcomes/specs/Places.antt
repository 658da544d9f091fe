-- What an array holds that has room for more. docs/MODEL.md, "Evidence".
use Rattle.std.specs.Prelude.{ℕ, ◌<◌, List, slice_get, IsSomeAnd}

-- each of its first places is there, and of what stands in it P says what it is
abbrev pub HoldsEach : {A : Type 0} → ℕ → (ℕ → A → Type 0) → List A → Type 0
HoldsEach many P xs = (i : ℕ) → i < many → IsSomeAnd (slice_get xs i) (P i)
