-- The least of the numbers that were found.
use Rattle.std.specs.Prelude.{ℕ, ◌≤◌, nat_le, if◌then◌else◌, Option, Some, None}

-- the lower of a number and those found before it
abbrev pub lower : Option ℕ → ℕ → Option ℕ
lower None n = Some n
lower (Some before) n = if nat_le before n then Some before else Some n

-- one was found, and it is at most this
abbrev pub IsBelow : Option ℕ → ℕ → Type 0
IsBelow None n = ⊥
IsBelow (Some least) n = least ≤ n

-- what was found later is at most what was found earlier
abbrev pub Lowers : Option ℕ → Option ℕ → Type 0
Lowers before after = (n : ℕ) → IsBelow before n → IsBelow after n
