-- How failures are counted.
use Rattle.std.specs.Prelude.{ℕ, ◌+◌, ◌%◌, ◌^◌}

-- the count after one more failure: 64 bits, that begin again at 0
abbrev pub after_failure : ℕ → ℕ
after_failure failures = (failures + 1) % 2 ^ 64
