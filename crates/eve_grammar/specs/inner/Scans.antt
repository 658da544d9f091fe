-- Reading that keeps no values.
use Rattle.std.specs.Prelude.{◌≡◌, ℕ, zero, suc, ◌+◌, List, Option, Some, None, nat_le, if◌then◌else◌}
use Rattle.eve_grammar.specs.Limits.{is_no_debt}
use Rattle.eve_grammar.specs.Readers.{◌>>=◌, Reader, number_at, restore_at, versioned_at}

-- a function returned what stands after a part, seen by view, and None where reading finds no such part
abbrev pub Passes : {X A : Type 0} → (X → List ℕ) → Option X → Option (A × List ℕ) → Type 0
Passes {A = A} view (Some x) read = (part : A) × (read ≡ Some (part, view x))
Passes view None read = read ≡ None

-- the same with a measure of the part, as its sum or its length, and what stands after it
abbrev pub Measures : {X A : Type 0} → (X → ℕ × List ℕ) → (A → ℕ) → Option X → Option (A × List ℕ) → Type 0
Measures {A = A} view measure (Some x) read =
    (part : A) × (read ≡ Some (part, (view x).1)) × (measure part ≡ (view x).0)
Measures view measure None read = read ≡ None

-- the sum of this many sizes, if none is 0
unfoldable pub total_at : ℕ → Reader ℕ
total_at zero bytes = Some (0, bytes)
total_at (suc n) bytes =
    number_at 2 bytes >>= λ x. if nat_le 1 x.0 then (total_at n x.1 >>= λ y. Some (x.0 + y.0, y.1)) else None

-- what stands after this many of a field
unfoldable pub rest_at : {A : Type 0} → Reader A → ℕ → List ℕ → Option (List ℕ)
rest_at one zero bytes = Some bytes
rest_at one (suc n) bytes = one bytes >>= λ x. rest_at one n x.1

-- what stands after this many restores of rising rows, the first of this row or above
unfoldable pub rising_at : ℕ → ℕ → ℕ → List ℕ → Option (List ℕ)
rising_at rows least zero bytes = Some bytes
rising_at rows least (suc n) bytes =
    restore_at rows bytes >>= λ x. if nat_le least x.0.row then rising_at rows (x.0.row + 1) n x.1 else None

-- what stands after a version and a value for each of this many rows, the first of this number, with no saving below 0
unfoldable pub saved_at : ℕ → ℕ → List ℕ → Option (List ℕ)
saved_at row zero bytes = Some bytes
saved_at row (suc n) bytes =
    versioned_at bytes >>= λ x. if is_no_debt row x.0 then saved_at (row + 1) n x.1 else None
