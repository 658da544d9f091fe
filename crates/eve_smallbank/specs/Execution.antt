-- What a request does where it meets a table. docs/MODEL.md, "Entries".
use Rattle.std.specs.Prelude.{ℕ, ℤ, pos, ◌/◌, ◌%◌, ◌==◌, Bool, if◌then◌else◌, List, [], map, Option, Some, None}
use Rattle.std.specs.Prelude.{slice_index_or}
use Rattle.std.specs.FinMap.{get}
use Rattle.eve_smallbank.specs.declared.request.Reply.{Reply}
use Rattle.eve_smallbank.specs.declared.entry.Kind.{Kind}
use Rattle.eve_smallbank.specs.declared.entry.Kind.TheVariants.{Read, Write}
use Rattle.eve_smallbank.specs.declared.entry.Entry.{Entry}
use Rattle.eve_smallbank.specs.SmallBank.{Account, Bank, Request, does}
use Rattle.eve_smallbank.specs.Access.{Executed, rows_of, noted_rows, bank_of}
use Rattle.eve_smallbank.specs.Chain.{Table, values_of}

-- one of the two balances of an account, 0 where there is no account
abbrev pub account_value : Option Account → Bool → ℤ
account_value None is_saving = pos 0
account_value (Some a) is_saving = if is_saving then a.saving else a.checking

-- the value that a bank has in a row of these names
abbrev pub value_in : List (List ℕ) → Bank → ℕ → ℤ
value_in names bank row = account_value (get bank (slice_index_or names (row / 2) [])) (row % 2 == 0)

-- a read leaves the row's value, a write the one that the bank after has
abbrev pub value_left : List (List ℕ) → Table → Bank → ℕ → Kind → ℤ
value_left names table bank row Read = (table row).value
value_left names table bank row Write = value_in names bank row

-- the entry of a row, which the bank after has with a new value
abbrev pub entry_on : List (List ℕ) → Table → Bank → ℕ × Kind → Entry
entry_on names table bank r =
    record {
      row = r.0;
      kind = r.1;
      version = (table r.0).version;
      seen = (table r.0).value;
      after = value_left names table bank r.0 r.1;
    }

-- the request, executed on what the rows have
abbrev pub executed_on : List (List ℕ) → Table → Request → Executed
executed_on names table request =
    let outcome : Bank × Reply = does (bank_of names (values_of table)) request in
    record {
      request = request;
      reply = outcome.1;
      entries = map (entry_on names table outcome.0) (noted_rows outcome.1 (rows_of names request));
    }
