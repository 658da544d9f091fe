-- Stretches of what is worked through side by side: of a replica's attempts, or of rows.
-- docs/ARCHITECTURE.md, "Threads of an audit".
use Rattle.std.specs.Prelude.{◌≡◌, ℕ, ◌≤◌, List, [], ◌∷◌, All}
use Rattle.eve_chains.specs.declared.stretch.Stretch.{Stretch}

-- it lies among the given number
pub record IsWithin (count : ℕ) (x : Stretch) : Type 0 where
  pub rising : x.from ≤ x.to
  pub there : x.to ≤ count

-- the stretches follow one another, from one place up to another
abbrev pub Reaches : ℕ → ℕ → List Stretch → Type 0
Reaches from to [] = from ≡ to
Reaches from to (x ∷ xs) = (x.from ≡ from) × Reaches x.to to xs

-- they are all from one place up to another
pub record AreBetween (from to : ℕ) (xs : List Stretch) : Type 0 where
  pub reaches : Reaches from to xs
  pub within : All (IsWithin to) xs

-- they are all of the given number
pub record AreStretches (count : ℕ) (xs : List Stretch) : Type 0 where
  pub reaches : Reaches 0 count xs
  pub within : All (IsWithin count) xs
