-- The order in which an attempt executed its batch. docs/MODEL.md, "Certificate order, keeps the groups".
use Rattle.std.specs.Prelude.{ℕ, zero, suc, ◌-◌, nat_lt, nat_le, ◌==◌, Bool, true, ◌&&◌, if◌then◌else◌, List}
use Rattle.std.specs.Prelude.{[], ◌∷◌}
use Rattle.std.specs.List.{list_all}

-- how often the number stands in the order
abbrev pub occurrences : ℕ → List ℕ → ℕ
occurrences i [] = 0
occurrences i (x ∷ xs) = if x == i then suc (occurrences i xs) else occurrences i xs

-- whether each number below n passes
abbrev pub all_below : ℕ → (ℕ → Bool) → Bool
all_below zero test = true
all_below (suc n) test = test n && all_below n test

-- each number is below r, and each below r stands there once
abbrev pub is_permutation : ℕ → List ℕ → Bool
is_permutation r order = list_all (λ i. nat_lt i r) order && all_below r (λ i. occurrences i order == 1)

-- the parallelBatch of an index, from 0: they have these sizes
abbrev pub group_of : List ℕ → ℕ → ℕ
group_of [] index = 0
group_of (size ∷ sizes) index = if nat_lt index size then 0 else suc (group_of sizes (index - size))

-- no index stands after one of a later parallelBatch
abbrev pub is_grouped : List ℕ → List ℕ → Bool
is_grouped sizes [] = true
is_grouped sizes (i ∷ order) =
    list_all (λ j. nat_le (group_of sizes i) (group_of sizes j)) order && is_grouped sizes order

-- every index below r once, parallelBatch after parallelBatch
abbrev pub keeps_groups : List ℕ → ℕ → List ℕ → Bool
keeps_groups sizes r order = is_permutation r order && is_grouped sizes order

-- the numbers from n on, one after another
abbrev pub counts_from : ℕ → List ℕ → Bool
counts_from n [] = true
counts_from n (i ∷ order) = (i == n) && counts_from (suc n) order

-- it keeps the groups, and in serial mode it is the listed order
-- Where it isn't so, F21 Certificate stands.
abbrev pub is_certificate : List ℕ → ℕ → Bool → List ℕ → Bool
is_certificate sizes r serial order = keeps_groups sizes r order && (if serial then counts_from 0 order else true)
