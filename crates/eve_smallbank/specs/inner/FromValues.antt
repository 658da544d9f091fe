-- What comes of a request that isn't refused, worked out from the values in its rows alone, with no bank.
-- docs/MODEL.md, "Transactions" and "Entries".
use Rattle.std.specs.Prelude.{ℤ, ◌+ℤ◌, ◌-ℤ◌, pos, int_lt, if◌then◌else◌, List, [], ◌∷◌, map, slice_set, Option, Some}
use Rattle.std.specs.Prelude.{None}
use Rattle.eve_accounts.specs.Money.{is_balance}
use Rattle.eve_smallbank.specs.declared.request.Abort.{Abort}
use Rattle.eve_smallbank.specs.declared.request.Abort.TheVariants.{Insufficient, OutOfRange}
use Rattle.eve_smallbank.specs.declared.request.Reply.TheVariants.{Done, Total, Aborted}
use Rattle.eve_smallbank.specs.declared.entry.Kind.TheVariants.{Read, Write}
use Rattle.eve_smallbank.specs.declared.decision.Effect.{Effect}
use Rattle.eve_smallbank.specs.declared.decision.Decision.{Decision}
use Rattle.eve_smallbank.specs.SmallBank.{Request, Balance, DepositChecking, TransactSaving, Amalgamate, WriteCheck}
use Rattle.eve_smallbank.specs.SmallBank.{check_cost}
use Rattle.eve_smallbank.specs.Access.{RowKinds, is_write}

-- a row that is only read
abbrev pub only_read : ℤ → Effect
only_read value = record { kind = Read; after = value }

-- a row that gets this value
abbrev pub written : ℤ → Effect
written value = record { kind = Write; after = value }

-- nothing changes, and these values have been read
abbrev pub abort_after : Abort → List ℤ → Decision
abort_after why seen = record { reply = Aborted why; effects = map only_read seen }

-- done with these effects, unless the new balance lies outside the range
abbrev pub done_within : List ℤ → ℤ → List Effect → Decision
done_within seen balance effects =
    if is_balance balance then record { reply = Done; effects = effects } else abort_after OutOfRange seen

-- What is decided of a request that isn't refused, from the values seen in its rows: none where there
-- aren't as many values as rows.
abbrev pub decided_from : Request → List ℤ → Option Decision
decided_from (Balance name) (saving ∷ checking ∷ []) =
    Some (record { reply = Total (saving +ℤ checking); effects = only_read saving ∷ only_read checking ∷ [] })
decided_from (DepositChecking name amount) (checking ∷ []) =
    let after : ℤ = checking +ℤ amount in
    Some (done_within (checking ∷ []) after (written after ∷ []))
decided_from (TransactSaving name amount) (saving ∷ []) =
    let after : ℤ = saving +ℤ amount in
    Some (if int_lt after (pos 0) then abort_after Insufficient (saving ∷ [])
    else done_within (saving ∷ []) after (written after ∷ []))
decided_from (Amalgamate from to) (saving ∷ checking ∷ []) =
    let after : ℤ = pos 0 +ℤ (saving +ℤ checking) in
    Some (done_within (saving ∷ checking ∷ []) after (written (pos 0) ∷ written after ∷ []))
decided_from (Amalgamate from to) (saving ∷ checking ∷ receiver ∷ []) =
    let after : ℤ = receiver +ℤ (saving +ℤ checking) in
    Some (done_within (saving ∷ checking ∷ receiver ∷ []) after
    (written (pos 0) ∷ written (pos 0) ∷ written after ∷ []))
decided_from (WriteCheck name amount) (saving ∷ checking ∷ []) =
    let after : ℤ = checking -ℤ check_cost (record { saving = saving; checking = checking }) amount in
    Some (done_within (saving ∷ checking ∷ []) after (only_read saving ∷ written after ∷ []))
decided_from request values = None

-- the balances after these effects on these rows
abbrev pub balances_after : List ℤ → RowKinds → List Effect → List ℤ
balances_after balances (r ∷ rows) (effect ∷ effects) =
    balances_after (if is_write effect.kind then slice_set balances r.0 effect.after else balances) rows effects
balances_after balances rows effects = balances
