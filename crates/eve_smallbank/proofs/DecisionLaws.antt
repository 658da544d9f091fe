-- What is decided from the values seen is what the request does.
use Rattle.std.proofs.Common.{◌≡◌, ℕ, ℤ, pos, ◌+◌, ◌*◌, ◌+ℤ◌, ◌-ℤ◌, ◌==◌, int_lt, Bool, true, false, cond, List, []}
use Rattle.std.proofs.Common.{◌∷◌, map, Option, Some, refl, sym, ap, ap₂, ◌∙◌, inl, inr, arith}
use Rattle.std.proofs.lemmas.Bool.{cases_Bool, eq-eqb, eqb-true, cond-true, cond-false, false≢true}
use Rattle.std.specs.FinMap.{insert}
use Rattle.eve_accounts.specs.Money.{is_balance}
use Rattle.eve_accounts.specs.Names.{customer_named}
use Rattle.eve_accounts.specs.Rows.{saving_row, checking_row}
use Rattle.eve_smallbank.specs.declared.decision.Decision.{Decision}
use Rattle.eve_smallbank.specs.declared.decision.Effect.{Effect}
use Rattle.eve_smallbank.specs.declared.entry.Kind.TheVariants.{Read, Write}
use Rattle.eve_smallbank.specs.declared.request.Abort.TheVariants.{Insufficient, OutOfRange}
use Rattle.eve_smallbank.specs.declared.request.Reply.{Reply}
use Rattle.eve_smallbank.specs.declared.request.Reply.TheVariants.{Done, Total, Aborted}
use Rattle.eve_smallbank.specs.SmallBank.{Account, Bank, Request, Balance, DepositChecking, TransactSaving, Amalgamate}
use Rattle.eve_smallbank.specs.SmallBank.{WriteCheck, aborted, check_cost, does}
use Rattle.eve_smallbank.specs.Access.{RowKinds, account_at, bank_of, rows_of, noted_rows}
use Rattle.eve_smallbank.specs.Chain.{Table, values_of}
use Rattle.eve_smallbank.specs.Execution.{value_in, entry_on, executed_on}
use Rattle.eve_smallbank.specs.Decide.{effect_in, decision_in}
use Rattle.eve_smallbank.specs.inner.FromValues.{only_read, written, abort_after, done_within, decided_from}
use Rattle.eve_smallbank.proofs.Banks.{put_account, put_account-own, put_account-other, insert-bank_of, rows_for}
use Rattle.eve_smallbank.proofs.Banks.{empty_account}
use Rattle.eve_smallbank.proofs.FittingRecords as fitting

-- ---- the account of a changed customer

value_checking-insert : (names : List (List ℕ)) (values : ℕ → ℤ) (name : List ℕ) (c : ℕ) (a : Account)
    → customer_named names name ≡ Some c
    → value_in names (insert (bank_of names values) name a) (checking_row c) ≡ a.checking
value_checking-insert names values name c a e =
    ap (λ (bank : Bank). value_in names bank (checking_row c)) (insert-bank_of names values name c a e)
    ∙ fitting.value_checking names (put_account values c a) c name e
    ∙ ap (λ (b : Account). b.checking) (put_account-own values c a)

value_saving-insert : (names : List (List ℕ)) (values : ℕ → ℤ) (name : List ℕ) (c : ℕ) (a : Account)
    → customer_named names name ≡ Some c
    → value_in names (insert (bank_of names values) name a) (saving_row c) ≡ a.saving
value_saving-insert names values name c a e =
    ap (λ (bank : Bank). value_in names bank (saving_row c)) (insert-bank_of names values name c a e)
    ∙ fitting.value_saving names (put_account values c a) c name e
    ∙ ap (λ (b : Account). b.saving) (put_account-own values c a)

-- ---- from an outcome

module _ (names : List (List ℕ)) (table : Table) where
  abbrev pub decision_by : Bank × Reply → RowKinds → Decision
  decision_by outcome rows =
      record {
        reply = outcome.1;
        effects = map effect_in
            (map (entry_on names table outcome.0) (noted_rows outcome.1 rows));
      }

  pub by_outcome : (request : Request) (outcome : Bank × Reply) (rows : RowKinds)
      → does (bank_of names (values_of table)) request ≡ outcome → rows_of names request ≡ rows
      → decision_in (executed_on names table request) ≡ decision_by outcome rows
  by_outcome request outcome rows e f = ap₂ decision_by e f

  abbrev pub value : ℕ → ℤ
  value row = (table row).value

  all_kept : (bank : Bank) (rows : RowKinds)
      → map effect_in (map (entry_on names table bank) (map (λ r. (r.0, Read)) rows))
      ≡ map only_read (map (λ r. value r.0) rows)
  all_kept bank [] = refl
  all_kept bank (r ∷ rows) = ap (λ (effects : List Effect). only_read (value r.0) ∷ effects) (all_kept bank rows)

  -- a new balance that lies in the range or doesn't
  by_range : (bank : Bank) (b : Bool) (rows : RowKinds)
      → decision_by (cond b (bank, Done) (aborted (bank_of names (values_of table)) OutOfRange)) rows
      ≡ cond b (decision_by (bank, Done) rows) (abort_after OutOfRange (map (λ r. value r.0) rows))
  by_range bank true rows = refl
  by_range bank false rows = ap (λ (effects : List Effect). record { reply = Aborted OutOfRange; effects = effects })
      (all_kept (bank_of names (values_of table)) rows)

  within : (request : Request) (rows : RowKinds) (bank : Bank) (after : ℤ) (effects : List Effect)
      → does (bank_of names (values_of table)) request ≡ cond (is_balance after) (bank, Done)
      (aborted (bank_of names (values_of table)) OutOfRange)
      → rows_of names request ≡ rows → map effect_in (map (entry_on names table bank) rows) ≡ effects
      → done_within (map (λ r. value r.0) rows) after effects ≡ decision_in (executed_on names table request)
  within request rows bank after effects so is make =
      sym (by_outcome request (cond (is_balance after) (bank, Done)
      (aborted (bank_of names (values_of table)) OutOfRange)) rows so is
      ∙ by_range bank (is_balance after) rows
      ∙ ap (λ (es : List Effect). done_within (map (λ r. value r.0) rows) after es) make)

  -- ---- the transactions

  pub balanced : (name : List ℕ) (c : ℕ) → customer_named names name ≡ Some c
      → decided_from (Balance name) (value (saving_row c) ∷ value (checking_row c) ∷ [])
      ≡ Some (decision_in (executed_on names table (Balance name)))
  balanced name c e =
      ap Some (sym (by_outcome (Balance name)
      (bank_of names (values_of table), Total (value (saving_row c) +ℤ value (checking_row c)))
      ((saving_row c, Read) ∷ (checking_row c, Read) ∷ [])
      (fitting.balanced names table name (values_of table) (Some c) e)
      (ap (λ (o : Option ℕ). rows_for o (λ d. (saving_row d, Read) ∷ (checking_row d, Read) ∷ [])) e)))

  pub deposited : (name : List ℕ) (amount : ℤ) (c : ℕ) → customer_named names name ≡ Some c → int_lt amount (pos 0)
      ≡ false
      → decided_from (DepositChecking name amount) (value (checking_row c) ∷ [])
      ≡ Some (decision_in (executed_on names table (DepositChecking name amount)))
  deposited name amount c e good =
      let after : ℤ = value (checking_row c) +ℤ amount in
      let account : Account = record { saving = value (saving_row c); checking = after } in
      ap Some (within (DepositChecking name amount) ((checking_row c, Write) ∷ [])
      (insert (bank_of names (values_of table)) name account) after (written after ∷ [])
      (fitting.deposited names table name amount (values_of table) (Some c) e
      ∙ cond-false (int_lt amount (pos 0)) _ _ good)
      (ap (λ (o : Option ℕ). rows_for o (λ d. (checking_row d, Write) ∷ [])) e)
      (ap (λ (z : ℤ). written z ∷ []) (value_checking-insert names (values_of table) name c account e)))

  pub transacted : (name : List ℕ) (amount : ℤ) (c : ℕ) → customer_named names name ≡ Some c
      → decided_from (TransactSaving name amount) (value (saving_row c) ∷ [])
      ≡ Some (decision_in (executed_on names table (TransactSaving name amount)))
  transacted name amount c e =
      let after : ℤ = value (saving_row c) +ℤ amount in
      let account : Account = record { saving = after; checking = value (checking_row c) } in
      let is : rows_of names (TransactSaving name amount) ≡ (saving_row c, Write) ∷ [] =
      ap (λ (o : Option ℕ). rows_for o (λ d. (saving_row d, Write) ∷ [])) e in
      elim (cases_Bool (int_lt after (pos 0))) [
        | inl low ↦ ap Some (cond-true (int_lt after (pos 0)) _ _ low
            ∙ sym (by_outcome (TransactSaving name amount) (bank_of names (values_of table), Aborted Insufficient)
            ((saving_row c, Write) ∷ [])
            (fitting.transacted names table name amount (values_of table) (Some c) e
            ∙ cond-true (int_lt after (pos 0)) _ _ low) is))
        | inr high ↦ ap Some (cond-false (int_lt after (pos 0)) _ _ high
            ∙ within (TransactSaving name amount) ((saving_row c, Write) ∷ [])
            (insert (bank_of names (values_of table)) name account) after (written after ∷ [])
            (fitting.transacted names table name amount (values_of table) (Some c) e
            ∙ cond-false (int_lt after (pos 0)) _ _ high) is
            (ap (λ (z : ℤ). written z ∷ []) (value_saving-insert names (values_of table) name c account e)))
      ]

  pub checked : (name : List ℕ) (amount : ℤ) (c : ℕ) → customer_named names name ≡ Some c → int_lt amount (pos 0)
      ≡ false
      → decided_from (WriteCheck name amount) (value (saving_row c) ∷ value (checking_row c) ∷ [])
      ≡ Some (decision_in (executed_on names table (WriteCheck name amount)))
  checked name amount c e good =
      let after : ℤ = value (checking_row c) -ℤ check_cost (account_at (values_of table) c) amount in
      let account : Account = record { saving = value (saving_row c); checking = after } in
      ap Some (within (WriteCheck name amount) ((saving_row c, Read) ∷ (checking_row c, Write) ∷ [])
      (insert (bank_of names (values_of table)) name account) after
      (only_read (value (saving_row c)) ∷ written after ∷ [])
      (fitting.checked names table name amount (values_of table) (Some c) e
      ∙ cond-false (int_lt amount (pos 0)) _ _ good)
      (ap (λ (o : Option ℕ). rows_for o (λ d. (saving_row d, Read) ∷ (checking_row d, Write) ∷ [])) e)
      (ap (λ (z : ℤ). only_read (value (saving_row c)) ∷ written z ∷ [])
      (value_checking-insert names (values_of table) name c account e)))

  module _ (from to : List ℕ) (c d : ℕ) (e : customer_named names from ≡ Some c) (f : customer_named names to ≡ Some d)
    where
      abbrev after_move : ℤ
      after_move = fitting.new_checking names table from to c d e f (values_of table)

      abbrev bank_then : Bank
      bank_then = fitting.result_bank names table from to c d e f (values_of table)

      saving_then : value_in names bank_then (saving_row c) ≡ pos 0
      saving_then = fitting.noted_sender_saving names table from to c d e f
          ∙ fitting.result-saving names table from to c d e f (values_of table)

      pub amalgamated_itself : (c == d) ≡ true
          → decided_from (Amalgamate from to) (value (saving_row c) ∷ value (checking_row c) ∷ [])
          ≡ Some (decision_in (executed_on names table (Amalgamate from to)))
      amalgamated_itself same =
          let equal : c ≡ d = eqb-true c d same in
          let zeros : pos 0 ≡ put_account (values_of table) c empty_account (checking_row d)
          = sym (ap (λ n. put_account (values_of table) c empty_account (checking_row n)) (sym equal)
          ∙ ap (λ (a : Account). a.checking) (put_account-own (values_of table) c empty_account)) in
          ap Some (ap (λ (z : ℤ). done_within (value (saving_row c) ∷ value (checking_row c) ∷ [])
          (z +ℤ (value (saving_row c) +ℤ value (checking_row c)))
          (written (pos 0) ∷ written (z +ℤ (value (saving_row c) +ℤ value (checking_row c))) ∷ [])) zeros
          ∙ within (Amalgamate from to) ((saving_row c, Write) ∷ (checking_row c, Write) ∷ []) bank_then after_move
          (written (pos 0) ∷ written after_move ∷ [])
          (fitting.amalgamated names table from to c d e f (values_of table))
          (fitting.both_rows names table from to c d e f ∙ cond-true (c == d) _ _ same)
          (ap₂ (λ (y z : ℤ). written y ∷ written z ∷ []) saving_then
          (fitting.noted_sender names table from to c d e f
          ∙ ap (λ n. fitting.result_of names table from to c d e f (values_of table) (checking_row n)) equal
          ∙ fitting.result-receiver names table from to c d e f (values_of table))))

      pub amalgamated_another : (c == d) ≡ false
          → decided_from (Amalgamate from to)
          (value (saving_row c) ∷ value (checking_row c) ∷ value (checking_row d) ∷ [])
          ≡ Some (decision_in (executed_on names table (Amalgamate from to)))
      amalgamated_another other =
          let apart : ¬ (d ≡ c) = λ h. absurd (false≢true (sym other ∙ eq-eqb c d (sym h))) in
          let keeps : value (checking_row d) ≡ put_account (values_of table) c empty_account (checking_row d)
          = sym (ap (λ (a : Account). a.checking) (put_account-other (values_of table) c d empty_account apart)) in
          let sum : ℤ = value (saving_row c) +ℤ value (checking_row c) in
          let seen : List ℤ = value (saving_row c) ∷ value (checking_row c) ∷ value (checking_row d) ∷ [] in
          ap Some (ap (λ (z : ℤ). done_within seen (z +ℤ sum)
          (written (pos 0) ∷ written (pos 0) ∷ written (z +ℤ sum) ∷ [])) keeps
          ∙ within (Amalgamate from to) ((saving_row c, Write) ∷ (checking_row c, Write) ∷ (checking_row d, Write) ∷ [])
          bank_then after_move
          (written (pos 0) ∷ written (pos 0) ∷ written after_move ∷ [])
          (fitting.amalgamated names table from to c d e f (values_of table))
          (fitting.both_rows names table from to c d e f ∙ cond-false (c == d) _ _ other)
          (three saving_then (fitting.noted_sender names table from to c d e f ∙ emptied apart)
          (fitting.noted_receiver names table from to c d e f ∙ fitting.result-receiver names table from to c d e f
          (values_of table))))
        where
          three : {x y z u v w : ℤ} → x ≡ u → y ≡ v → z ≡ w
              → ◌≡◌ {A = List Effect} (written x ∷ written y ∷ written z ∷ []) (written u ∷ written v ∷ written w ∷ [])
          three p q r = λ i. written (p i) ∷ written (q i) ∷ written (r i) ∷ []

          checking_apart : (m n : ℕ) → ¬ (n ≡ m) → 2 * m + 1 ≡ 2 * n + 1 → ⊥
          checking_apart m n a h = a (omega arith)

          emptied : ¬ (d ≡ c) → fitting.result_of names table from to c d e f (values_of table) (checking_row c) ≡ pos 0
          emptied apart =
              fitting.result-other names table from to c d e f (values_of table) (checking_row c)
              (λ h. checking_apart c d apart h)
              ∙ ap (λ (a : Account). a.checking) (put_account-own (values_of table) c empty_account)
