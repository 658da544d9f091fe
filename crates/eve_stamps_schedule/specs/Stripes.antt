-- The stripes of rows that a request needs. docs/DEPLOYMENT.md, "Schedule".
use Rattle.std.specs.Prelude.{ℕ, zero, suc, Bool, if◌then◌else◌, List, Option, Some, None}
use Rattle.eve_smallbank.specs.SmallBank.{Request}
use Rattle.eve_smallbank.specs.Touch.{touched_of, rows_in}
use Rattle.eve_stamps.specs.OpeningRows.{touches}

-- whether the request touches a row of the stripe
abbrev pub needs : List (List ℕ) → Request → ℕ → Bool
needs names request stripe = touches (rows_in (touched_of names request)) stripe

-- the least of n numbers from this one on that passes
abbrev pub least_from : ℕ → ℕ → (ℕ → Bool) → Option ℕ
least_from i zero test = None
least_from i (suc n) test = if test i then Some i else least_from (suc i) n test

-- the greatest number below n that passes
abbrev pub greatest_below : ℕ → (ℕ → Bool) → Option ℕ
greatest_below zero test = None
greatest_below (suc n) test = if test n then Some n else greatest_below n test
