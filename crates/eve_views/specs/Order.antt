-- Lists that a sort has put in order.
use Rattle.std.specs.Prelude.{◌≡◌, ℕ, ◌<◌, List, Some, slice_get}

-- each item stands so to each that is after it
abbrev pub AreInOrder : {A : Type 0} → (A → A → Type 0) → List A → Type 0
AreInOrder {A} R xs = (i j : ℕ) (a b : A) → i < j → slice_get xs i ≡ Some a → slice_get xs j ≡ Some b → R a b
