-- What a request does to the stripes that it is lent, and why it is refused. docs/DEPLOYMENT.md, "Stripe".
use Rattle.std.specs.Prelude.{◌≡◌, ℕ, nat_le, Bool, not, ◌&&◌, ◌||◌, if◌then◌else◌, List, map, filter, Option, Some}
use Rattle.std.specs.Prelude.{None, Result, Err, IfOk, IfErr}
use Rattle.std.specs.List.{AllByRecursion, list_all, list_any}
use Rattle.eve_smallbank.specs.declared.entry.Entry.{Entry}
use Rattle.eve_smallbank.specs.declared.request.Reply.{Reply}
use Rattle.eve_smallbank.specs.declared.rows.Touched.{Touched}
use Rattle.eve_smallbank.specs.SmallBank.{Request}
use Rattle.eve_smallbank.specs.Access.{RowKinds, Fits, is_write}
use Rattle.eve_smallbank.specs.Chain.{Table}
use Rattle.eve_smallbank.specs.Touch.{touched_of, rows_in}
use Rattle.eve_smallbank.specs.Execution.{executed_on}
use Rattle.eve_grammar.specs.declared.limits.TheConstants.{MOST_VERSIONS}
use Rattle.eve_stamps.specs.declared.fault.StampFault.{StampFault}
use Rattle.eve_stamps.specs.declared.fault.StampFault.TheVariants as fault
use Rattle.eve_stamps.specs.Stripes.{HeldRow, Stripe, has_row, row_in, rows_now, is_above}
use Rattle.eve_stamps.specs.HeldRows.{CanBeNoted}

-- ---- two stripes as one; a row that lies in both is the first's

abbrev pub has_row_in_two : Stripe → Stripe → ℕ → Bool
has_row_in_two first second row = has_row first row || has_row second row

abbrev pub rows_in_two : Stripe → Stripe → Table
rows_in_two first second row = if has_row first row then rows_now first row else rows_now second row

-- the entries of the stripe's rows
abbrev pub entries_within : Stripe → List Entry → List Entry
entries_within s entries = filter (λ e. has_row s e.row) entries

-- the entries of other rows
abbrev pub entries_outside : Stripe → List Entry → List Entry
entries_outside s entries = filter (λ e. not (has_row s e.row)) entries

-- ---- what is seen

-- these rows as the table has them, where all are there
abbrev pub seen_of : (ℕ → Bool) → Table → RowKinds → Option (List HeldRow)
seen_of is_there now rows =
    if list_all (λ r. is_there r.0) rows then Some (map (λ r. row_in now r.0) rows) else None

-- ---- refusals

-- some row that is to be written has the greatest version
abbrev pub is_worn : Table → RowKinds → Bool
is_worn now rows = list_any (λ r. is_write r.1 && nat_le MOST_VERSIONS (now r.0).version) rows

-- Why a request of these rows is refused, if it is: a row isn't there, the tick is no new one, or a row is worn.
abbrev pub refused_for : (ℕ → Bool) → Bool → Table → RowKinds → Option StampFault
refused_for is_there is_new now rows =
    if list_all (λ r. is_there r.0) rows then
    (if is_new then (if is_worn now rows then Some fault.Worn else None) else Some fault.TickOrder)
    else Some fault.NoRow

-- of a request on one stripe
abbrev pub refusal : Stripe → ℕ → RowKinds → Option StampFault
refusal s tick rows = refused_for (has_row s) (is_above tick s.greatest) (rows_now s) rows

-- of a request on two stripes
abbrev pub refusal_of_two : Stripe → Stripe → ℕ → RowKinds → Option StampFault
refusal_of_two first second tick rows =
    refused_for (has_row_in_two first second) (is_above tick first.greatest && is_above tick second.greatest)
    (rows_in_two first second) rows

-- it is refused for this reason, and for lack of memory alone where there is none
abbrev pub IsRefusedFor : {A : Type 0} → Option StampFault → Result A StampFault → Type 0
IsRefusedFor (Some why) result = result ≡ Err why
IsRefusedFor None result = IfErr result (λ why. why ≡ fault.Memory)

-- ---- a request that is run

-- Its reply and entries are those of executing it on the table, whoever the customers are, and a journal can take them;
-- or it is refused for the reason that there is.
pub record IsRun (is_there : ℕ → Bool) (now : Table) (is_new : Bool) (request : Request) (touched : Touched)
    (result : Result (Reply × List Entry) StampFault) : Type 0 where
  pub exact : (names : List (List ℕ)) → touched ≡ touched_of names request → IfOk result (λ x.
      record { request = request; reply = x.0; entries = x.1 } ≡ executed_on names now request)
  pub fits : (names : List (List ℕ)) → touched ≡ touched_of names request → IfOk result (λ x.
      Fits names (record { request = request; reply = x.0; entries = x.1 }))
  pub noted : IfOk result (λ x. AllByRecursion (CanBeNoted is_there now) x.1)
  pub taken : IfOk result (λ _. refused_for is_there is_new now (rows_in touched) ≡ None)
  pub refused : IfErr result (λ why. refused_for is_there is_new now (rows_in touched) ≡ Some why)
