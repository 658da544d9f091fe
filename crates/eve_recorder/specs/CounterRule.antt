-- The rule over the counter and all seats: the numbers drawn are those below the counter, each once.
-- The right to know all numbers has a part for each seat that there may be, and one that stays.
-- docs/DEPLOYMENT.md, "Recorder lists, drawn numbers".
use Rattle.std.specs.Prelude.{◌≡◌, ℕ, ◌+◌, ◌-◌, ◌*◌, ◌≤◌, ◌<◌, ◌==◌, if◌then◌else◌, nat_lt, List, [], ◌∷◌, ◌++◌}
use Rattle.std.specs.Prelude.{length, All, count_by, sum_by}
use mathlib.Core.Option.{some}
use lib.ListN.{get_elem?}
use Rattle.atomic_table.specs.Table.{State, Me, Step}
use Rattle.eve_recorder.specs.declared.limits.TheConstants.{MOST_DRAWN, MOST_SEATS}
use Rattle.eve_recorder.specs.declared.drawn.Drawn.{Drawn}

abbrev pub all_parts : ℕ
all_parts = MOST_SEATS + 1

abbrev pub drawn : ℕ → List ℕ → Drawn
drawn parts numbers = record { parts = parts; numbers = numbers }

-- how often a number stands in the list
abbrev pub times : ℕ → List ℕ → ℕ
times x xs = count_by (λ y. y == x) xs

-- a number below n stands there once, and any other never
abbrev pub once_below : ℕ → ℕ → ℕ
once_below x n = if nat_lt x n then 1 else 0

-- a seat draws below the counter, and MOST_DRAWN numbers at most for each of its parts
abbrev pub IsFair : ℕ → Drawn → Type 0
IsFair n v = (length v.numbers ≤ v.parts * MOST_DRAWN) × All (λ x. x < n) v.numbers

-- all parts are there, and the numbers that all seats drew are those below n, each once
abbrev pub AreBelow : ℕ → List Drawn → Type 0
AreBelow n views =
    (sum_by (λ v. v.parts) views ≡ all_parts)
    × (sum_by (λ v. length v.numbers) views ≡ n)
    × ((x : ℕ) → sum_by (λ v. times x v.numbers) views ≡ once_below x n)
    × ((seat : ℕ) (v : Drawn) → get_elem? views seat ≡ some v → IsFair n v)

-- the one word is the counter
abbrev pub IsDealt : {S : Type 0} → State S Drawn → Type 0
IsDealt s = (n : ℕ) × (s.words ≡ n ∷ []) × AreBelow n s.views

-- the number found goes to the seat's list, and is above all that was there
abbrev pub Draws : {S : Type 0} → Step S → Me S Drawn → ℕ → Me S Drawn → Type 0
Draws s me n you = (you ≡ (drawn me.0.parts (me.0.numbers ++ n ∷ []), me.1)) × All (λ x. x < n) me.0.numbers

abbrev pub fewer : Drawn → Drawn
fewer v = drawn (v.parts - 1) v.numbers

abbrev pub one_part : Drawn → Drawn
one_part v = drawn 1 []

abbrev pub drawn_by_both : Drawn → Drawn → Drawn
drawn_by_both v w = drawn (v.parts + w.parts) (v.numbers ++ w.numbers)

abbrev pub spent : Drawn
spent = drawn 0 []
