-- What a request reads and writes, row by row, and what fits it.
-- docs/MODEL.md, "Bank", "Entries", "A record fits its request".
use Rattle.std.specs.Prelude.{◌≡◌, ℕ, ℤ, pos, ◌+◌, ◌==◌, Bool, true, false, ◌&&◌, if◌then◌else◌, List, [], ◌∷◌, map}
use Rattle.std.specs.Prelude.{filter, slice_index_or, fold, unwrap_or, option_map}
use Rattle.std.specs.List.{AllByRecursion}
use Rattle.std.specs.FinMap.{empty, insert}
use Rattle.eve_accounts.specs.Names.{customer_named}
use Rattle.eve_accounts.specs.Rows.{saving_row, checking_row}
use Rattle.eve_smallbank.specs.declared.request.Abort.TheVariants.{Insufficient, OutOfRange}
use Rattle.eve_smallbank.specs.declared.request.Reply.{Reply}
use Rattle.eve_smallbank.specs.declared.request.Reply.TheVariants.{Aborted}
use Rattle.eve_smallbank.specs.declared.entry.Kind.{Kind}
use Rattle.eve_smallbank.specs.declared.entry.Kind.TheVariants.{Read, Write}
use Rattle.eve_smallbank.specs.declared.entry.Entry.{Entry}
use Rattle.eve_smallbank.specs.SmallBank.{Account, Bank, Request, Balance, DepositChecking, TransactSaving, Amalgamate}
use Rattle.eve_smallbank.specs.SmallBank.{WriteCheck, does}

-- whether the row gets a new version
abbrev pub is_write : Kind → Bool
is_write Read = false
is_write Write = true

-- an executed request
pub record Executed : Type 0 where
  pub request : Request
  pub reply : Reply
  pub entries : List Entry

-- whether the entry writes this row
abbrev pub writes_row : ℕ → Entry → Bool
writes_row row e = is_write e.kind && (e.row == row)

-- ---- rows

-- what a customer has
abbrev pub account_at : (ℕ → ℤ) → ℕ → Account
account_at values customer = record { saving = values (saving_row customer); checking = values (checking_row customer) }

-- the bank of the names from this number on, with these values in its rows
abbrev pub bank_from : ℕ → List (List ℕ) → (ℕ → ℤ) → Bank
bank_from customer [] values = empty
bank_from customer (name ∷ names) values =
    insert (bank_from (customer + 1) names values) name (account_at values customer)

-- the bank of the customers with these names, with these values in its rows
unfoldable pub bank_of : List (List ℕ) → (ℕ → ℤ) → Bank
bank_of names values = bank_from 0 names values

-- ---- which rows

-- the rows and kinds of an access, in order
abbrev pub RowKinds : Type 0
RowKinds = List (ℕ × Kind)

-- the rows of the customer of a name, none where no customer has it
abbrev pub for_customer : List (List ℕ) → List ℕ → (ℕ → RowKinds) → RowKinds
for_customer names name rows = unwrap_or (option_map rows (customer_named names name)) []

-- both rows of the one and the checking row of the other, each once
abbrev pub amalgamated_rows : ℕ → ℕ → RowKinds
amalgamated_rows from to =
    if from == to then (saving_row from, Write) ∷ (checking_row from, Write) ∷ []
    else (saving_row from, Write) ∷ (checking_row from, Write) ∷ (checking_row to, Write) ∷ []

-- the rows that a request touches where it isn't aborted
abbrev pub rows_of : List (List ℕ) → Request → RowKinds
rows_of names (Balance name) = for_customer names name (λ c. (saving_row c, Read) ∷ (checking_row c, Read) ∷ [])
rows_of names (DepositChecking name amount) = for_customer names name (λ c. (checking_row c, Write) ∷ [])
rows_of names (TransactSaving name amount) = for_customer names name (λ c. (saving_row c, Write) ∷ [])
rows_of names (Amalgamate from to) = for_customer names from (λ c. for_customer names to (amalgamated_rows c))
rows_of names (WriteCheck name amount) =
    for_customer names name (λ c. (saving_row c, Read) ∷ (checking_row c, Write) ∷ [])

-- the same rows, all as reads
abbrev pub as_reads : RowKinds → RowKinds
as_reads rows = map (λ r. (r.0, Read)) rows

-- an abort for want of cover or range has read its rows, any other abort none
abbrev pub noted_rows : Reply → RowKinds → RowKinds
noted_rows (Aborted Insufficient) rows = as_reads rows
noted_rows (Aborted OutOfRange) rows = as_reads rows
noted_rows (Aborted _) rows = []
noted_rows _ rows = rows

-- ---- what fits

-- values of rows, after the writes among these entries
abbrev pub values_after : (ℕ → ℤ) → List Entry → ℕ → ℤ
values_after values es = fold (λ now e row. if writes_row row e then e.after else now row) values es

-- The rows and kinds are the request's, and a read leaves what it saw. In every bank of these names that
-- has the values seen, the request gives the reply and the values after, and changes nothing else.
-- Where it isn't so, F30 Record stands.
pub record Fits (names : List (List ℕ)) (x : Executed) : Type 0 where
  pub rows : map (λ e. (e.row, e.kind)) x.entries ≡ noted_rows x.reply (rows_of names x.request)
  pub reads : AllByRecursion (λ e. e.kind ≡ Read → e.after ≡ e.seen) x.entries
  pub effect : (values : ℕ → ℤ) → AllByRecursion (λ e. e.seen ≡ values e.row) x.entries
      → does (bank_of names values) x.request ≡ (bank_of names (values_after values x.entries), x.reply)

-- ---- the balances of all customers as a list

-- the balance of a row, by its number
abbrev pub balance_of_row : List ℤ → ℕ → ℤ
balance_of_row balances row = slice_index_or balances row (pos 0)

-- the rows that are written, by number
abbrev pub written_rows : RowKinds → List ℕ
written_rows rows = map (λ r. r.0) (filter (λ r. is_write r.1) rows)
