-- Ranges of money, in cents. docs/MODEL.md, "Money".
use Rattle.std.specs.Prelude.{ℤ, pos, neg_ℤ, Bool, ◌&&◌, Option, Some, None, if◌then◌else◌}
use Rattle.std.specs.Int.RustNames.{int_le}
use Rattle.eve_accounts.specs.declared.limits.TheConstants.{MOST_BALANCE, MOST_AMOUNT}

-- a balance lies within 10^15 of zero
abbrev pub is_balance : ℤ → Bool
is_balance z = int_le (neg_ℤ MOST_BALANCE) z && int_le z MOST_BALANCE

-- savings start at 0 or more
abbrev pub is_saving : ℤ → Bool
is_saving z = is_balance z && int_le (pos 0) z

-- an amount lies within 10^12 of zero
abbrev pub is_amount : ℤ → Bool
is_amount z = int_le (neg_ℤ MOST_AMOUNT) z && int_le z MOST_AMOUNT

-- the number, if it is a balance
abbrev pub balance_of : ℤ → Option ℤ
balance_of z = if is_balance z then Some z else None

-- the number, if it is an amount
abbrev pub amount_of : ℤ → Option ℤ
amount_of z = if is_amount z then Some z else None
