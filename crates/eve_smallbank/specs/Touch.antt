-- Which rows a request touches, or why it is refused before it reads any. docs/MODEL.md, "Transactions" and "Entries".
use Rattle.std.specs.Prelude.{ℕ, pos, int_lt, Bool, false, is_some, if◌then◌else◌, List, [], ◌∷◌}
use Rattle.std.specs.List.{list_all}
use Rattle.eve_accounts.specs.Names.{customer_named}
use Rattle.eve_smallbank.specs.declared.request.Abort.TheVariants.{NoSuchName, BadAmount}
use Rattle.eve_smallbank.specs.declared.rows.Touched.{Touched}
use Rattle.eve_smallbank.specs.declared.rows.Touched.TheVariants as touched
use Rattle.eve_smallbank.specs.SmallBank.{Request, Balance, DepositChecking, TransactSaving, Amalgamate, WriteCheck}
use Rattle.eve_smallbank.specs.Access.{RowKinds, rows_of}

-- the names that a request gives
abbrev pub names_in : Request → List (List ℕ)
names_in (Balance name) = name ∷ []
names_in (DepositChecking name amount) = name ∷ []
names_in (TransactSaving name amount) = name ∷ []
names_in (Amalgamate from to) = from ∷ to ∷ []
names_in (WriteCheck name amount) = name ∷ []

-- each name that the request gives is a customer's
abbrev pub knows_names : List (List ℕ) → Request → Bool
knows_names names request = list_all (λ name. is_some (customer_named names name)) (names_in request)

-- deposits and checks take no amount below 0
abbrev pub has_bad_amount : Request → Bool
has_bad_amount (Balance name) = false
has_bad_amount (DepositChecking name amount) = int_lt amount (pos 0)
has_bad_amount (TransactSaving name amount) = false
has_bad_amount (Amalgamate from to) = false
has_bad_amount (WriteCheck name amount) = int_lt amount (pos 0)

-- what a request touches, where the customers have these names
abbrev pub touched_of : List (List ℕ) → Request → Touched
touched_of names request =
    if knows_names names request
    then (if has_bad_amount request then touched.Refused BadAmount else touched.Rows (rows_of names request))
    else touched.Refused NoSuchName

-- the rows that are touched
abbrev pub rows_in : Touched → RowKinds
rows_in (touched.Refused why) = []
rows_in (touched.Rows rows) = rows
