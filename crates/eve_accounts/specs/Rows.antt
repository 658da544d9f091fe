-- Two rows for each customer. docs/MODEL.md, "Rows".
use Rattle.std.specs.Prelude.{ℕ, ◌+◌, ◌*◌}

-- where the customer's saving balance stands
abbrev pub saving_row : ℕ → ℕ
saving_row customer = 2 * customer

-- where the customer's checking balance stands
abbrev pub checking_row : ℕ → ℕ
checking_row customer = 2 * customer + 1
