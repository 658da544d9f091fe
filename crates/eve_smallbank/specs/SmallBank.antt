-- SmallBank on one thread: a bank, its five transactions, and a run of them. No rows, no versions.
-- docs/MODEL.md, "Bank", "Transactions", "One-thread run".
use Rattle.std.specs.Prelude.{ℕ, ℤ, pos, ◌+ℤ◌, ◌-ℤ◌, int_lt, if◌then◌else◌, List, [], ◌∷◌, Option, Some, None}
use Rattle.std.specs.FinMap.{FinMap, get, insert}
use Rattle.eve_accounts.specs.Money.{is_balance}
use Rattle.eve_accounts.specs.Names.{name_cmp}
use Rattle.eve_smallbank.specs.declared.request.Abort.{Abort}
use Rattle.eve_smallbank.specs.declared.request.Abort.TheVariants.{NoSuchName, BadAmount, Insufficient, OutOfRange}
use Rattle.eve_smallbank.specs.declared.request.Reply.{Reply}
use Rattle.eve_smallbank.specs.declared.request.Reply.TheVariants.{Done, Total, Aborted}
use Rattle.eve_smallbank.specs.declared.limits.TheConstants.{PENALTY}
use Rattle.eve_smallbank.specs.declared.request.Request as code
use Rattle.eve_smallbank.specs.declared.request.Request.TheVariants as of

-- what a customer has, in cents
pub record Account : Type 0 where
  pub saving : ℤ
  pub checking : ℤ

-- a finite map from names to accounts
abbrev pub Bank : Type 0
Bank = FinMap name_cmp Account

-- a transaction, with its names and amounts as values
pub data Request : Type 0 where
  Balance : (name : List ℕ) → Request
  DepositChecking : (name : List ℕ) → (amount : ℤ) → Request
  TransactSaving : (name : List ℕ) → (amount : ℤ) → Request
  Amalgamate : (from : List ℕ) → (to : List ℕ) → Request
  WriteCheck : (name : List ℕ) → (amount : ℤ) → Request

-- a request of the code, without where its names lie in memory
abbrev pub plain : code.Request → Request
plain (of.Balance name) = Balance name.now
plain (of.DepositChecking name amount) = DepositChecking name.now amount
plain (of.TransactSaving name amount) = TransactSaving name.now amount
plain (of.Amalgamate from to) = Amalgamate from.now to.now
plain (of.WriteCheck name amount) = WriteCheck name.now amount

-- an abort changes nothing
abbrev pub aborted : Bank → Abort → Bank × Reply
aborted bank why = (bank, Aborted why)

-- the bank after, unless the new balance lies outside the range
abbrev pub updated : Bank → Bank → ℤ → Bank × Reply
updated bank after balance = if is_balance balance then (after, Done) else aborted bank OutOfRange

-- what is done with an account, if it is there
abbrev pub with_account : Bank → Option Account → (Account → Bank × Reply) → Bank × Reply
with_account bank None act = aborted bank NoSuchName
with_account bank (Some account) act = act account

-- the amount comes to the checking balance
abbrev pub deposit_checking : Bank → List ℕ → ℤ → Account → Bank × Reply
deposit_checking bank name amount a =
    if int_lt amount (pos 0) then aborted bank BadAmount
    else updated bank (insert bank name (record a { checking = a.checking +ℤ amount })) (a.checking +ℤ amount)

-- the amount comes to the saving balance, which stays at 0 or more
abbrev pub transact_saving : Bank → List ℕ → ℤ → Account → Bank × Reply
transact_saving bank name amount a =
    if int_lt (a.saving +ℤ amount) (pos 0) then aborted bank Insufficient
    else updated bank (insert bank name (record a { saving = a.saving +ℤ amount })) (a.saving +ℤ amount)

-- the sum goes to the checking balance; emptied is the bank without it, bank the one before
abbrev pub moved : Bank → Bank → List ℕ → ℤ → Account → Bank × Reply
moved bank emptied to sum a =
    updated bank (insert emptied to (record a { checking = a.checking +ℤ sum })) (a.checking +ℤ sum)

-- all of this account goes to the checking balance of the other, which may be the same
abbrev pub amalgamate : Bank → List ℕ → List ℕ → Account → Bank × Reply
amalgamate bank from to a =
    let emptied : Bank = insert bank from (record { saving = pos 0; checking = pos 0 }) in
    with_account bank (get emptied to) (moved bank emptied to (a.saving +ℤ a.checking))

-- the amount, and the penalty where the account has less than the amount
abbrev pub check_cost : Account → ℤ → ℤ
check_cost a amount = if int_lt (a.saving +ℤ a.checking) amount then amount +ℤ PENALTY else amount

-- the check is paid from the checking balance
abbrev pub write_check : Bank → List ℕ → ℤ → Account → Bank × Reply
write_check bank name amount a =
    let checking : ℤ = a.checking -ℤ check_cost a amount in
    if int_lt amount (pos 0) then aborted bank BadAmount
    else updated bank (insert bank name (record a { checking = checking })) checking

-- the bank after a request, and its reply
unfoldable pub does : Bank → Request → Bank × Reply
does bank (Balance name) = with_account bank (get bank name) (λ a. (bank, Total (a.saving +ℤ a.checking)))
does bank (DepositChecking name amount) = with_account bank (get bank name) (deposit_checking bank name amount)
does bank (TransactSaving name amount) = with_account bank (get bank name) (transact_saving bank name amount)
does bank (Amalgamate from to) = with_account bank (get bank from) (amalgamate bank from to)
does bank (WriteCheck name amount) = with_account bank (get bank name) (write_check bank name amount)

-- the bank after requests one after another, and their replies
abbrev pub run : Bank → List Request → Bank × List Reply
run bank [] = (bank, [])
run bank (request ∷ requests) =
    let first = does bank request in
    let others = run first.0 requests in (others.0, first.1 ∷ others.1)
