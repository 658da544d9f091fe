-- Public: other crates cite these lemmas. The least of the numbers that were found.
use Rattle.std.proofs.Common.{◌≡◌, ℕ, Bool, true, false, cond, Option, Some, None, IfSome, refl, arith}
use Rattle.std.specs.Prelude.{nat_le}
use Rattle.std.proofs.lemmas.Bool.{leb-true, leb-false}
use Rattle.eve_views.specs.Least.{lower, IsBelow, Lowers}

pub lower_lowers : (least : Option ℕ) (n : ℕ) → Lowers least (lower least n)
lower_lowers None n x below = absurd below
lower_lowers (Some before) n x below = by_test (nat_le before n) refl
  where
    by_test : (t : Bool) → nat_le before n ≡ t → IsBelow (cond t (Some before) (Some n)) x
    by_test true e = below
    by_test false e = omega (arith, leb-false before n e, below)

pub lower_at : (least : Option ℕ) (n : ℕ) → IsBelow (lower least n) n
lower_at None n = omega arith
lower_at (Some before) n = by_test (nat_le before n) refl
  where
    by_test : (t : Bool) → nat_le before n ≡ t → IsBelow (cond t (Some before) (Some n)) n
    by_test true e = leb-true before n e
    by_test false e = omega arith

pub lower_stands : (P : ℕ → Type 0) (least : Option ℕ) (n : ℕ) → IfSome least P → P n → IfSome (lower least n) P
lower_stands P None n before here = here
lower_stands P (Some l) n before here = by_test (nat_le l n)
  where
    by_test : (t : Bool) → IfSome (cond t (Some l) (Some n)) P
    by_test true = before
    by_test false = here
