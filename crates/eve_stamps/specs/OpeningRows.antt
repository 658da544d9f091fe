-- Which rows lie in which stripe, and what a stripe has at first. docs/DEPLOYMENT.md, "Schedule".
use Rattle.std.specs.Prelude.{ℕ, ℤ, ◌/◌, ◌%◌, ◌==◌, Bool, List, [], ◌∷◌, filter, flat_map}
use Rattle.std.specs.List.{range_with_len, list_any}
use Rattle.eve_accounts.specs.Rows.{saving_row, checking_row}
use Rattle.eve_smallbank.specs.Access.{RowKinds, balance_of_row}
use Rattle.eve_stamps.specs.declared.limits.TheConstants.{STRIPES}
use Rattle.eve_stamps.specs.Stripes.{HeldRow}

-- customer c lies in stripe c mod 16
abbrev pub stripe_of_customer : ℕ → ℕ
stripe_of_customer customer = customer % STRIPES

-- and so does each of its two rows
abbrev pub stripe_of : ℕ → ℕ
stripe_of row = stripe_of_customer (row / 2)

-- whether one of these rows lies in the stripe
abbrev pub touches : RowKinds → ℕ → Bool
touches rows stripe = list_any (λ r. stripe_of r.0 == stripe) rows

-- ---- at first

-- the row at version 0, with its opening balance
abbrev pub opening_row : List ℤ → ℕ → HeldRow
opening_row balances row = record { row = row; version = 0; value = balance_of_row balances row }

-- both rows of a customer
abbrev pub rows_of_customer : List ℤ → ℕ → List HeldRow
rows_of_customer balances customer =
    opening_row balances (saving_row customer) ∷ opening_row balances (checking_row customer) ∷ []

-- the rows of the stripe, of the given number of customers
abbrev pub rows_of_stripe : List ℤ → ℕ → ℕ → List HeldRow
rows_of_stripe balances stripe customers =
    flat_map (rows_of_customer balances) (filter (λ c. stripe_of_customer c == stripe) (range_with_len 0 customers))
