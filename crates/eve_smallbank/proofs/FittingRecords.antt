-- Public: other crates cite these lemmas. What a request makes of a table fits it.
use Rattle.std.proofs.Common.{◌≡◌, ℕ, ℤ, pos, zero, suc, ◌+◌, ◌*◌, ◌/◌, ◌%◌, ◌==◌, ◌+ℤ◌, ◌-ℤ◌, int_lt, Bool, true}
use Rattle.std.proofs.Common.{false, cond, List, [], ◌∷◌, map, get_or, Option, Some, None, option_map, refl, sym, subst}
use Rattle.std.proofs.Common.{ap, ap₂, ◌∙◌, inl, inr, ◌⊎◌, ◌≤◌, zero-add, arith}
use mathlib.Core.Path.{fun_ext}
use Rattle.std.proofs.lemmas.Bool.{cases_Bool, cases_eq, eqb-true, eq-eqb, ne_eqb, or_from, or_parts, cond-true}
use Rattle.std.proofs.lemmas.Bool.{cond-false, false≢true}
use Rattle.std.specs.List.{AllByRecursion, list_any, position_from}
use Rattle.std.specs.FinMap.{get, insert}
use Rattle.eve_accounts.specs.Money.{is_balance}
use Rattle.eve_accounts.specs.Names.{same_name, customer_named}
use Rattle.eve_accounts.specs.Rows.{saving_row, checking_row}
use Rattle.eve_smallbank.specs.declared.entry.Entry.{Entry}
use Rattle.eve_smallbank.specs.declared.entry.Kind.{Kind}
use Rattle.eve_smallbank.specs.declared.entry.Kind.TheVariants.{Read, Write}
use Rattle.eve_smallbank.specs.declared.request.Abort.TheVariants.{NoSuchName, BadAmount, Insufficient, OutOfRange}
use Rattle.eve_smallbank.specs.declared.request.Reply.{Reply}
use Rattle.eve_smallbank.specs.declared.request.Reply.TheVariants.{Done, Total, Aborted}
use Rattle.eve_smallbank.specs.SmallBank.{Account, Bank, Request, Balance, DepositChecking, TransactSaving, Amalgamate}
use Rattle.eve_smallbank.specs.SmallBank.{WriteCheck, aborted, with_account, updated, deposit_checking, transact_saving}
use Rattle.eve_smallbank.specs.SmallBank.{moved, amalgamate, check_cost, write_check, does}
use Rattle.eve_smallbank.specs.Access.{RowKinds, account_at, bank_of, amalgamated_rows, rows_of}
use Rattle.eve_smallbank.specs.Access.{noted_rows}
use Rattle.eve_smallbank.specs.Access.{values_after, Fits}
use Rattle.eve_smallbank.specs.Chain.{Table, values_of}
use Rattle.eve_smallbank.specs.Execution.{account_value, value_in, entry_on, executed_on}
use Rattle.eve_smallbank.proofs.Members.{In, here, there}
use Rattle.eve_accounts.proofs.NameLemmas.{same_name-true}
use Rattle.eve_smallbank.proofs.Banks.{put_account, put_account-own, put_account-row, put_account-other}
use Rattle.eve_smallbank.proofs.Banks.{chosen, from_below, get-bank_of, insert-bank_of, rows_for, empty_account}

-- ---- the value of a row in a bank

name_at : (c n i : ℕ) (names : List (List ℕ)) (name : List ℕ) → position_from (same_name name) c names ≡ Some n
    → n ≡ c + i
    → get_or names i [] ≡ name
name_at c n i [] name e f = absurd (none n e)
  where
    none : (n : ℕ) → ◌≡◌ {A = Option ℕ} None (Some n) → ⊥
    none n h = cc
name_at c n zero (first ∷ names) name e f =
    elim (chosen (same_name name first) c n (position_from (same_name name) (c + 1) names) e) [
      | inl h ↦ sym (same_name-true name first h.0)
      | inr h ↦ absurd (above n c f (from_below (c + 1) n names name h.1))
    ]
  where
    above : (m k : ℕ) → m ≡ k + 0 → k + 1 ≤ m → ⊥
    above m k a b = omega arith
name_at c n (suc i) (first ∷ names) name e f =
    elim (chosen (same_name name first) c n (position_from (same_name name) (c + 1) names) e) [
      | inl h ↦ absurd (apart n c i h.1 f)
      | inr h ↦ name_at (c + 1) n i names name h.1 (shifted n c i f)
    ]
  where
    apart : (m k j : ℕ) → k ≡ m → m ≡ k + suc j → ⊥
    apart m k j a b = omega arith

    shifted : (m k j : ℕ) → m ≡ k + suc j → m ≡ k + 1 + j
    shifted m k j a = omega arith

half : (c : ℕ) → 2 * c / 2 ≡ c
half c = omega arith

half_odd : (c : ℕ) → (2 * c + 1) / 2 ≡ c
half_odd c = omega arith

name_of : (names : List (List ℕ)) (c : ℕ) (name : List ℕ) → customer_named names name ≡ Some c
    → get_or names c [] ≡ name
unfolding customer_named
name_of names c name e = name_at 0 c c names name e (sym (zero-add c))

pub found : (names : List (List ℕ)) (values : ℕ → ℤ) (name : List ℕ) (o : Option ℕ) → customer_named names name ≡ o
    → get (bank_of names values) name ≡ option_map (account_at values) o
found names values name o e = get-bank_of names values name ∙ ap (option_map (account_at values)) e

pub value_saving : (names : List (List ℕ)) (values : ℕ → ℤ) (c : ℕ) (name : List ℕ) → customer_named names name ≡ Some c
    → value_in names (bank_of names values) (saving_row c) ≡ values (saving_row c)
value_saving names values c name e =
    ap₂ (λ (a : Option Account) (b : Bool). account_value a b)
    (ap (λ n. get (bank_of names values) (get_or names n [])) (half c)
    ∙ ap (get (bank_of names values)) (name_of names c name e) ∙ found names values name (Some c) e)
    (eq-eqb (2 * c % 2) 0 (omega arith))

pub value_checking : (names : List (List ℕ)) (values : ℕ → ℤ) (c : ℕ) (name : List ℕ) → customer_named names name
    ≡ Some c
    → value_in names (bank_of names values) (checking_row c) ≡ values (checking_row c)
value_checking names values c name e =
    ap₂ (λ (a : Option Account) (b : Bool). account_value a b)
    (ap (λ n. get (bank_of names values) (get_or names n [])) (half_odd c)
    ∙ ap (get (bank_of names values)) (name_of names c name e) ∙ found names values name (Some c) e)
    (ne_eqb ((2 * c + 1) % 2) 0 (λ h. omega arith))

-- ---- one row changed

one_checking : (values : ℕ → ℤ) (c : ℕ) (x : ℤ)
    → put_account values c (record { saving = values (saving_row c); checking = x })
    ≡ (λ row. cond (checking_row c == row) x (values row))
one_checking values c x = fun_ext (λ row.
    elim (cases_eq row (saving_row c)) [
      | inl e ↦ cond-true (row == saving_row c) (values (saving_row c)) _ (eq-eqb row (saving_row c) e)
          ∙ ap values (sym e)
          ∙ sym (cond-false (checking_row c == row) x (values row) (ne_eqb (checking_row c) row (λ h. odd c row h e)))
      | inr n ↦ cond-false (row == saving_row c) (values (saving_row c)) _ (ne_eqb row (saving_row c) n)
          ∙ ap (λ b. cond b x (values row)) (turned row (checking_row c))
    ])
  where
    odd : (c row : ℕ) → 2 * c + 1 ≡ row → row ≡ 2 * c → ⊥
    odd c row h e = omega arith

    turned : (a b : ℕ) → (a == b) ≡ (b == a)
    turned a b = elim (cases_eq a b) [
      | inl e ↦ eq-eqb a b e ∙ sym (eq-eqb b a (sym e))
      | inr n ↦ ne_eqb a b n
          ∙ sym (ne_eqb b a (λ e. n (sym e)))
    ]

one_saving : (values : ℕ → ℤ) (c : ℕ) (x : ℤ)
    → put_account values c (record { saving = x; checking = values (checking_row c) })
    ≡ (λ row. cond (saving_row c == row) x (values row))
one_saving values c x = fun_ext (λ row.
    elim (cases_eq row (saving_row c)) [
      | inl e ↦ cond-true (row == saving_row c) x _ (eq-eqb row (saving_row c) e)
          ∙ sym (cond-true (saving_row c == row) x (values row) (eq-eqb (saving_row c) row (sym e)))
      | inr n ↦ cond-false (row == saving_row c) x _ (ne_eqb row (saving_row c) n)
          ∙ own row (cases_Bool (row == checking_row c))
          ∙ sym (cond-false (saving_row c == row) x (values row) (ne_eqb (saving_row c) row (λ e. n (sym e))))
    ])
  where
    own : (row : ℕ) → ((row == checking_row c) ≡ true) ⊎ ((row == checking_row c) ≡ false)
        → cond (row == checking_row c) (values (checking_row c)) (values row) ≡ values row
    own row (inl e) = cond-true (row == checking_row c) (values (checking_row c)) (values row) e
        ∙ ap values (sym (eqb-true row (checking_row c) e))
    own row (inr n) = cond-false (row == checking_row c) (values (checking_row c)) (values row) n

-- ---- from an outcome

kinds_of : (names : List (List ℕ)) (table : Table) (bank : Bank) (rows : RowKinds)
    → map (λ e. (e.row, e.kind)) (map (entry_on names table bank) rows) ≡ rows
kinds_of names table bank [] = refl
kinds_of names table bank (r ∷ rows) = ap (λ (others : RowKinds). r ∷ others) (kinds_of names table bank rows)

kept_read : (names : List (List ℕ)) (table : Table) (bank : Bank) (row : ℕ) (kind : Kind)
    → kind ≡ Read → (entry_on names table bank (row, kind)).after ≡ (entry_on names table bank (row, kind)).seen
kept_read names table bank row Read = λ is. refl
kept_read names table bank row Write = λ is. absurd (unlike is)
  where
    unlike : ◌≡◌ {A = Kind} Write Read → ⊥
    unlike e = cc

kept_reads : (names : List (List ℕ)) (table : Table) (bank : Bank) (rows : RowKinds)
    → AllByRecursion (λ (e : Entry). e.kind ≡ Read → e.after ≡ e.seen) (map (entry_on names table bank) rows)
kept_reads names table bank [] = tt
kept_reads names table bank (r ∷ rows) = (kept_read names table bank r.0 r.1, kept_reads names table bank rows)

module _ (names : List (List ℕ)) (table : Table) where
  abbrev entries_for : Bank × Reply → RowKinds → List Entry
  entries_for outcome rows = map (entry_on names table outcome.0) (noted_rows outcome.1 rows)

  -- what the request does in other banks that have the values seen
  abbrev DoesSo : Request → Bank × Reply → RowKinds → Type 0
  DoesSo request outcome rows =
      (values : ℕ → ℤ) → AllByRecursion (λ (e : Entry). e.seen ≡ values e.row) (entries_for outcome rows)
      → does (bank_of names values) request
      ≡ (bank_of names (values_after values (entries_for outcome rows)), outcome.1)

  by_outcome : (request : Request) (outcome : Bank × Reply) (rows : RowKinds)
      → does (bank_of names (values_of table)) request ≡ outcome → rows_of names request ≡ rows
      → DoesSo request outcome rows → Fits names (executed_on names table request)
  by_outcome request outcome rows e f so = record {
    rows = kinds_of names table (does (bank_of names (values_of table)) request).0
        (noted_rows (does (bank_of names (values_of table)) request).1 (rows_of names request));
    reads = kept_reads names table (does (bank_of names (values_of table)) request).0
        (noted_rows (does (bank_of names (values_of table)) request).1 (rows_of names request));
    effect = subst (λ o. DoesSo request o (rows_of names request)) (sym e) (subst (DoesSo request outcome) (sym f) so);
  }

  -- the customer isn't there
  missing : (request : Request)
      → ((values : ℕ → ℤ) → does (bank_of names values) request ≡ (bank_of names values, Aborted NoSuchName))
      → rows_of names request ≡ []
      → Fits names (executed_on names table request)
  missing request so rows = by_outcome request (bank_of names (values_of table), Aborted NoSuchName) []
      (so (values_of table)) rows (λ values _. so values)

  -- the amount is bad, which no row decides
  refused_amount : (request : Request) (rows : RowKinds)
      → ((values : ℕ → ℤ) → does (bank_of names values) request ≡ (bank_of names values, Aborted BadAmount))
      → rows_of names request ≡ rows
      → Fits names (executed_on names table request)
  refused_amount request rows so is = by_outcome request (bank_of names (values_of table), Aborted BadAmount) rows
      (so (values_of table)) is (λ values _. so values)

  -- ---- a checking balance written

  module _ (request : Request) (name : List ℕ) (c : ℕ) (e : customer_named names name ≡ Some c) (new : (ℕ → ℤ) → ℤ)
      (rows : RowKinds) (is : rows_of names request ≡ rows)
      (so : (values : ℕ → ℤ) → does (bank_of names values) request
      ≡ updated (bank_of names values)
      (insert (bank_of names values) name (record { saving = values (saving_row c); checking = new values }))
      (new values))
      (stable : (bank : Bank) (values : ℕ → ℤ)
      → AllByRecursion (λ (e : Entry). e.seen ≡ values e.row) (entries_for (bank, Done) rows)
      → new (values_of table)
      ≡ new values)
      (stable_out : (bank : Bank) (values : ℕ → ℤ)
      → AllByRecursion (λ (e : Entry). e.seen ≡ values e.row) (entries_for (bank, Aborted OutOfRange) rows)
      → new (values_of table) ≡ new values)
      (writes : (bank : Bank) (values : ℕ → ℤ) → values_after values (entries_for (bank, Done) rows)
      ≡ (λ row. cond (checking_row c == row) (value_in names bank (checking_row c)) (values row)))
      (reads : (bank : Bank) (values : ℕ → ℤ) → values_after values (entries_for (bank, Aborted OutOfRange) rows)
      ≡ values) where
    abbrev checking_after : (ℕ → ℤ) → Account
    checking_after values = record { saving = values (saving_row c); checking = new values }

    abbrev bank_then : (ℕ → ℤ) → Bank
    bank_then values = insert (bank_of names values) name (checking_after values)

    bank_then_is : (values : ℕ → ℤ) → bank_then values ≡ bank_of names (put_account values c (checking_after values))
    bank_then_is values = insert-bank_of names values name c (checking_after values) e

    -- the value that the write is noted with
    noted_value : value_in names (bank_then (values_of table)) (checking_row c) ≡ new (values_of table)
    noted_value =
        ap (λ (bank : Bank). value_in names bank (checking_row c)) (bank_then_is (values_of table))
        ∙ value_checking names (put_account (values_of table) c (checking_after (values_of table))) c name e
        ∙ ap (λ (a : Account). a.checking) (put_account-own (values_of table) c (checking_after (values_of table)))

    done_so : is_balance (new (values_of table)) ≡ true → DoesSo request (bank_then (values_of table), Done) rows
    done_so fits values seen =
        let same = stable (bank_then (values_of table)) values seen in
        so values ∙ cond-true (is_balance (new values)) _ _ (sym (ap is_balance same) ∙ fits)
        ∙ ap (λ (bank : Bank). (bank, Done)) (bank_then_is values
        ∙ ap (bank_of names) (one_checking values c (new values)
        ∙ ap {B = ℕ → ℤ} (λ (x : ℤ) (row : ℕ). cond (checking_row c == row) x (values row)) (sym (noted_value ∙ same))
        ∙ sym (writes (bank_then (values_of table)) values)))

    fits_checking : Fits names (executed_on names table request)
    fits_checking =
        elim (cases_Bool (is_balance (new (values_of table)))) [
          | inl fits ↦ by_outcome request (bank_then (values_of table), Done) rows
              (so (values_of table) ∙ cond-true (is_balance (new (values_of table))) _ _ fits) is (done_so fits)
          | inr out ↦ by_outcome request (bank_of names (values_of table), Aborted OutOfRange) rows
              (so (values_of table) ∙ cond-false (is_balance (new (values_of table))) _ _ out) is
              (λ values seen. so values
              ∙ cond-false (is_balance (new values)) _ _
              (sym (ap is_balance (stable_out (bank_of names (values_of table)) values seen)) ∙ out)
              ∙ ap (λ (v : ℕ → ℤ). (bank_of names v, Aborted OutOfRange))
              (sym (reads (bank_of names (values_of table)) values)))
        ]

  -- ---- the transactions

  pub deposited : (name : List ℕ) (amount : ℤ) (values : ℕ → ℤ) (o : Option ℕ) → customer_named names name ≡ o
      → does (bank_of names values) (DepositChecking name amount) ≡ with_account (bank_of names values)
      (option_map (account_at values) o) (deposit_checking (bank_of names values) name amount)
  unfolding does
  deposited name amount values o e =
      ap (λ (a : Option Account). with_account (bank_of names values) a
      (deposit_checking (bank_of names values) name amount)) (found names values name o e)

  fits_deposit : (name : List ℕ) (amount : ℤ) (o : Option ℕ) → customer_named names name ≡ o
      → Fits names (executed_on names table (DepositChecking name amount))
  fits_deposit name amount None e =
      missing (DepositChecking name amount) (λ values. deposited name amount values None e)
      (ap (λ (o : Option ℕ). rows_for o (λ c. (checking_row c, Write) ∷ [])) e)
  fits_deposit name amount (Some c) e =
      let rows : RowKinds = (checking_row c, Write) ∷ [] in
      let is : rows_of names (DepositChecking name amount) ≡ rows =
      ap (λ (o : Option ℕ). rows_for o (λ d. (checking_row d, Write) ∷ [])) e in
      elim (cases_Bool (int_lt amount (pos 0))) [
        | inl bad ↦ refused_amount (DepositChecking name amount) rows (λ values. deposited name amount values (Some c) e
            ∙ cond-true (int_lt amount (pos 0)) _ _ bad) is
        | inr good ↦ fits_checking (DepositChecking name amount) name c e (λ values. values (checking_row c) +ℤ amount)
            rows is
            (λ values. deposited name amount values (Some c) e ∙ cond-false (int_lt amount (pos 0)) _ _ good)
            (λ bank values seen. ap (λ z. z +ℤ amount) seen.0) (λ bank values seen. ap (λ z. z +ℤ amount) seen.0)
            (λ bank values. refl) (λ bank values. refl)
      ]

  pub checked : (name : List ℕ) (amount : ℤ) (values : ℕ → ℤ) (o : Option ℕ) → customer_named names name ≡ o
      → does (bank_of names values) (WriteCheck name amount) ≡ with_account (bank_of names values)
      (option_map (account_at values) o) (write_check (bank_of names values) name amount)
  unfolding does
  checked name amount values o e =
      ap (λ (a : Option Account). with_account (bank_of names values) a
      (write_check (bank_of names values) name amount)) (found names values name o e)

  fits_check : (name : List ℕ) (amount : ℤ) (o : Option ℕ) → customer_named names name ≡ o
      → Fits names (executed_on names table (WriteCheck name amount))
  fits_check name amount None e =
      missing (WriteCheck name amount) (λ values. checked name amount values None e)
      (ap (λ (o : Option ℕ). rows_for o (λ c. (saving_row c, Read) ∷ (checking_row c, Write) ∷ [])) e)
  fits_check name amount (Some c) e =
      let rows : RowKinds = (saving_row c, Read) ∷ (checking_row c, Write) ∷ [] in
      let is : rows_of names (WriteCheck name amount) ≡ rows =
      ap (λ (o : Option ℕ). rows_for o (λ d. (saving_row d, Read) ∷ (checking_row d, Write) ∷ [])) e in
      let paid : ℤ → ℤ → ℤ = λ s k. k -ℤ check_cost (record { saving = s; checking = k }) amount in
      elim (cases_Bool (int_lt amount (pos 0))) [
        | inl bad ↦ refused_amount (WriteCheck name amount) rows (λ values. checked name amount values (Some c) e
            ∙ cond-true (int_lt amount (pos 0)) _ _ bad) is
        | inr good ↦ fits_checking (WriteCheck name amount) name c e
            (λ values. values (checking_row c) -ℤ check_cost (account_at values c) amount) rows is
            (λ values. checked name amount values (Some c) e ∙ cond-false (int_lt amount (pos 0)) _ _ good)
            (λ bank values seen. ap₂ paid seen.0 seen.1.0) (λ bank values seen. ap₂ paid seen.0 seen.1.0)
            (λ bank values. refl) (λ bank values. refl)
      ]

  pub balanced : (name : List ℕ) (values : ℕ → ℤ) (o : Option ℕ) → customer_named names name ≡ o
      → does (bank_of names values) (Balance name) ≡ with_account (bank_of names values)
      (option_map (account_at values) o) (λ a. (bank_of names values, Total (a.saving +ℤ a.checking)))
  unfolding does
  balanced name values o e =
      ap (λ (a : Option Account). with_account (bank_of names values) a
      (λ b. (bank_of names values, Total (b.saving +ℤ b.checking)))) (found names values name o e)

  fits_balance : (name : List ℕ) (o : Option ℕ) → customer_named names name ≡ o
      → Fits names (executed_on names table (Balance name))
  fits_balance name None e =
      missing (Balance name) (λ values. balanced name values None e)
      (ap (λ (o : Option ℕ). rows_for o (λ c. (saving_row c, Read) ∷ (checking_row c, Read) ∷ [])) e)
  fits_balance name (Some c) e =
      by_outcome (Balance name)
      (bank_of names (values_of table), Total (values_of table (saving_row c) +ℤ values_of table (checking_row c)))
      ((saving_row c, Read) ∷ (checking_row c, Read) ∷ [])
      (balanced name (values_of table) (Some c) e)
      (ap (λ (o : Option ℕ). rows_for o (λ d. (saving_row d, Read) ∷ (checking_row d, Read) ∷ [])) e)
      (λ values seen. balanced name values (Some c) e ∙ ap (λ (z : ℤ). (bank_of names values, Total z))
      (sym (ap₂ ◌+ℤ◌ seen.0 seen.1.0)))

  pub transacted : (name : List ℕ) (amount : ℤ) (values : ℕ → ℤ) (o : Option ℕ) → customer_named names name ≡ o
      → does (bank_of names values) (TransactSaving name amount) ≡ with_account (bank_of names values)
      (option_map (account_at values) o) (transact_saving (bank_of names values) name amount)
  unfolding does
  transacted name amount values o e =
      ap (λ (a : Option Account). with_account (bank_of names values) a
      (transact_saving (bank_of names values) name amount)) (found names values name o e)

  module _ (name : List ℕ) (amount : ℤ) (c : ℕ) (e : customer_named names name ≡ Some c) where
    abbrev saved : ℤ → ℤ
    saved z = z +ℤ amount

    abbrev saving_after : (ℕ → ℤ) → Account
    saving_after values = record { saving = saved (values (saving_row c)); checking = values (checking_row c) }

    saving_then : (values : ℕ → ℤ) → insert (bank_of names values) name (saving_after values)
        ≡ bank_of names (put_account values c (saving_after values))
    saving_then values = insert-bank_of names values name c (saving_after values) e

    noted_saving : value_in names (insert (bank_of names (values_of table)) name (saving_after (values_of table)))
        (saving_row c) ≡ saved (values_of table (saving_row c))
    noted_saving =
        ap (λ (bank : Bank). value_in names bank (saving_row c)) (saving_then (values_of table))
        ∙ value_saving names (put_account (values_of table) c (saving_after (values_of table))) c name e
        ∙ ap (λ (a : Account). a.saving) (put_account-own (values_of table) c (saving_after (values_of table)))

    transact_rows : rows_of names (TransactSaving name amount) ≡ (saving_row c, Write) ∷ []
    transact_rows = ap (λ (o : Option ℕ). rows_for o (λ d. (saving_row d, Write) ∷ [])) e

    fits_saved : (low fits : Bool) → int_lt (saved (values_of table (saving_row c))) (pos 0) ≡ low
        → is_balance (saved (values_of table (saving_row c))) ≡ fits
        → Fits names (executed_on names table (TransactSaving name amount))
    fits_saved true fits l f =
        by_outcome (TransactSaving name amount) (bank_of names (values_of table), Aborted Insufficient)
        ((saving_row c, Write) ∷ [])
        (transacted name amount (values_of table) (Some c) e
        ∙ cond-true (int_lt (saved (values_of table (saving_row c))) (pos 0)) _ _ l) transact_rows
        (λ values seen. transacted name amount values (Some c) e
        ∙ cond-true (int_lt (saved (values (saving_row c))) (pos 0)) _ _
        (ap (λ z. int_lt (saved z) (pos 0)) (sym seen.0) ∙ l))
    fits_saved false false l f =
        by_outcome (TransactSaving name amount) (bank_of names (values_of table), Aborted OutOfRange)
        ((saving_row c, Write) ∷ [])
        (transacted name amount (values_of table) (Some c) e
        ∙ cond-false (int_lt (saved (values_of table (saving_row c))) (pos 0)) _ _ l
        ∙ cond-false (is_balance (saved (values_of table (saving_row c)))) _ _ f) transact_rows
        (λ values seen. transacted name amount values (Some c) e
        ∙ cond-false (int_lt (saved (values (saving_row c))) (pos 0)) _ _
        (ap (λ z. int_lt (saved z) (pos 0)) (sym seen.0) ∙ l)
        ∙ cond-false (is_balance (saved (values (saving_row c)))) _ _ (ap (λ z. is_balance (saved z)) (sym seen.0) ∙ f))
    fits_saved false true l f =
        by_outcome (TransactSaving name amount)
        (insert (bank_of names (values_of table)) name (saving_after (values_of table)), Done)
        ((saving_row c, Write) ∷ [])
        (transacted name amount (values_of table) (Some c) e
        ∙ cond-false (int_lt (saved (values_of table (saving_row c))) (pos 0)) _ _ l
        ∙ cond-true (is_balance (saved (values_of table (saving_row c)))) _ _ f) transact_rows
        (λ values seen. transacted name amount values (Some c) e
        ∙ cond-false (int_lt (saved (values (saving_row c))) (pos 0)) _ _
        (ap (λ z. int_lt (saved z) (pos 0)) (sym seen.0) ∙ l)
        ∙ cond-true (is_balance (saved (values (saving_row c)))) _ _ (ap (λ z. is_balance (saved z)) (sym seen.0) ∙ f)
        ∙ ap (λ (bank : Bank). (bank, Done)) (saving_then values
        ∙ ap (bank_of names) (one_saving values c (saved (values (saving_row c)))
        ∙ ap {B = ℕ → ℤ} (λ (x : ℤ) (row : ℕ). cond (saving_row c == row) x (values row))
        (sym (noted_saving ∙ ap saved seen.0)))))

  fits_transact : (name : List ℕ) (amount : ℤ) (o : Option ℕ) → customer_named names name ≡ o
      → Fits names (executed_on names table (TransactSaving name amount))
  fits_transact name amount None e =
      missing (TransactSaving name amount) (λ values. transacted name amount values None e)
      (ap (λ (o : Option ℕ). rows_for o (λ c. (saving_row c, Write) ∷ [])) e)
  fits_transact name amount (Some c) e =
      fits_saved name amount c e (int_lt (values_of table (saving_row c) +ℤ amount) (pos 0))
      (is_balance (values_of table (saving_row c) +ℤ amount)) refl refl

  -- ---- an amalgamation

  abbrev as_writes : List ℕ → RowKinds
  as_writes rows = map (λ row. (row, Write)) rows

  -- values that are written over with those of w, and are those of w elsewhere
  overwritten : (rows : List ℕ) (bank : Bank) (values w : ℕ → ℤ)
      → ((row : ℕ) → In row rows → value_in names bank row ≡ w row)
      → ((row : ℕ) → list_any (λ r. r == row) rows ≡ false → values row ≡ w row)
      → values_after values (map (entry_on names table bank) (as_writes rows)) ≡ w
  overwritten [] bank values w here_too elsewhere = fun_ext (λ row. elsewhere row refl)
  overwritten (r ∷ rows) bank values w here_too elsewhere =
      overwritten rows bank (λ row. cond (r == row) (value_in names bank r) (values row)) w
      (λ row i. here_too row (there i)) (λ row none.
      elim (cases_Bool (r == row)) [
        | inl same ↦ cond-true (r == row) (value_in names bank r) (values row) same ∙ here_too r here
            ∙ ap w (eqb-true r row same)
        | inr other ↦ cond-false (r == row) (value_in names bank r) (values row) other
            ∙ elsewhere row (or_from (r == row) (list_any (λ q. q == row) rows) other none)
      ])

  module _ (from to : List ℕ) (c d : ℕ) (e : customer_named names from ≡ Some c) (f : customer_named names to ≡ Some d)
    where
      abbrev pub left_empty : (ℕ → ℤ) → ℕ → ℤ
      left_empty values = put_account values c empty_account

      abbrev pub new_checking : (ℕ → ℤ) → ℤ
      new_checking values = left_empty values (checking_row d) +ℤ (values (saving_row c) +ℤ values (checking_row c))

      abbrev pub receiver : (ℕ → ℤ) → Account
      receiver values = record { saving = left_empty values (saving_row d); checking = new_checking values }

      abbrev pub result_of : (ℕ → ℤ) → ℕ → ℤ
      result_of values = put_account (left_empty values) d (receiver values)

      abbrev pub result_bank : (ℕ → ℤ) → Bank
      result_bank values = insert (insert (bank_of names values) from empty_account) to (receiver values)

      pub amalgamated : (values : ℕ → ℤ) → does (bank_of names values) (Amalgamate from to)
          ≡ cond (is_balance (new_checking values)) (result_bank values, Done)
          (aborted (bank_of names values) OutOfRange)
      unfolding does
      amalgamated values =
          ap (λ (a : Option Account). with_account (bank_of names values) a (amalgamate (bank_of names values) from to))
          (found names values from (Some c) e)
          ∙ ap (λ (a : Option Account). with_account (bank_of names values) a
          (moved (bank_of names values) (insert (bank_of names values) from empty_account) to
          (values (saving_row c) +ℤ values (checking_row c))))
          (ap (λ (bank : Bank). get bank to) (insert-bank_of names values from c empty_account e)
          ∙ found names (left_empty values) to (Some d) f)

      pub result_is : (values : ℕ → ℤ) → result_bank values ≡ bank_of names (result_of values)
      result_is values =
          ap (λ (bank : Bank). insert bank to (receiver values)) (insert-bank_of names values from c empty_account e)
          ∙ insert-bank_of names (left_empty values) to d (receiver values) f

      -- away from the receiver's checking balance
      pub result-other : (values : ℕ → ℤ) (row : ℕ) → ¬ (row ≡ checking_row d) → result_of values row
          ≡ left_empty values row
      result-other values row n =
          elim (cases_eq row (saving_row d)) [
            | inl same ↦ cond-true (row == saving_row d) (left_empty values (saving_row d)) _
                (eq-eqb row (saving_row d) same) ∙ ap (left_empty values) (sym same)
            | inr apart ↦ put_account-row (left_empty values) d (receiver values) row apart n
          ]

      pub result-receiver : (values : ℕ → ℤ) → result_of values (checking_row d) ≡ new_checking values
      result-receiver values = ap (λ (a : Account). a.checking)
          (put_account-own (left_empty values) d (receiver values))

      pub result-saving : (values : ℕ → ℤ) → result_of values (saving_row c) ≡ pos 0
      result-saving values =
          result-other values (saving_row c) (λ h. even c d h)
          ∙ ap (λ (a : Account). a.saving) (put_account-own values c empty_account)
        where
          even : (m n : ℕ) → 2 * m ≡ 2 * n + 1 → ⊥
          even m n h = omega arith

      result-elsewhere : (values : ℕ → ℤ) (row : ℕ) → ¬ (row ≡ saving_row c) → ¬ (row ≡ checking_row c)
          → ¬ (row ≡ checking_row d) → values row ≡ result_of values row
      result-elsewhere values row n m k =
          sym (result-other values row k ∙ put_account-row values c empty_account row n m)

      -- the values that the writes are noted with
      pub noted_sender_saving : value_in names (result_bank (values_of table)) (saving_row c)
          ≡ result_of (values_of table) (saving_row c)
      noted_sender_saving = ap (λ (bank : Bank). value_in names bank (saving_row c)) (result_is (values_of table))
          ∙ value_saving names (result_of (values_of table)) c from e

      pub noted_sender : value_in names (result_bank (values_of table)) (checking_row c)
          ≡ result_of (values_of table) (checking_row c)
      noted_sender = ap (λ (bank : Bank). value_in names bank (checking_row c)) (result_is (values_of table))
          ∙ value_checking names (result_of (values_of table)) c from e

      pub noted_receiver : value_in names (result_bank (values_of table)) (checking_row d)
          ≡ result_of (values_of table) (checking_row d)
      noted_receiver = ap (λ (bank : Bank). value_in names bank (checking_row d)) (result_is (values_of table))
          ∙ value_checking names (result_of (values_of table)) d to f

      module _ (rows : List ℕ) (is : rows_of names (Amalgamate from to) ≡ as_writes rows)
          (stable : (bank : Bank) (values : ℕ → ℤ)
          → AllByRecursion (λ (e : Entry). e.seen ≡ values e.row) (entries_for (bank, Done) (as_writes rows))
          → new_checking (values_of table) ≡ new_checking values)
          (stable_out : (bank : Bank) (values : ℕ → ℤ)
          → AllByRecursion (λ (e : Entry). e.seen ≡ values e.row)
          (entries_for (bank, Aborted OutOfRange) (as_writes rows))
          → new_checking (values_of table)
          ≡ new_checking values)
          (reads : (bank : Bank) (values : ℕ → ℤ)
          → values_after values (entries_for (bank, Aborted OutOfRange) (as_writes rows)) ≡ values)
          (exact : (values : ℕ → ℤ) → new_checking (values_of table) ≡ new_checking values → (row : ℕ) → In row rows
          → value_in names (result_bank (values_of table)) row ≡ result_of values row)
          (elsewhere : (values : ℕ → ℤ) (row : ℕ) → list_any (λ r. r == row) rows ≡ false → values row
          ≡ result_of values row) where
        fits_amalgamated : Fits names (executed_on names table (Amalgamate from to))
        fits_amalgamated =
            elim (cases_Bool (is_balance (new_checking (values_of table)))) [
              | inl fits ↦ by_outcome (Amalgamate from to) (result_bank (values_of table), Done) (as_writes rows)
                  (amalgamated (values_of table) ∙ cond-true (is_balance (new_checking (values_of table))) _ _ fits) is
                  (λ values seen.
                  let same = stable (result_bank (values_of table)) values seen in
                  amalgamated values ∙ cond-true (is_balance (new_checking values)) _ _
                  (sym (ap is_balance same) ∙ fits)
                  ∙ ap (λ (bank : Bank). (bank, Done)) (result_is values
                  ∙ ap (bank_of names) (sym
                  (overwritten rows (result_bank (values_of table)) values (result_of values) (exact values same)
                  (elsewhere values)))))
              | inr out ↦ by_outcome (Amalgamate from to) (bank_of names (values_of table), Aborted OutOfRange)
                  (as_writes rows)
                  (amalgamated (values_of table) ∙ cond-false (is_balance (new_checking (values_of table))) _ _ out) is
                  (λ values seen. amalgamated values
                  ∙ cond-false (is_balance (new_checking values)) _ _
                  (sym (ap is_balance (stable_out (bank_of names (values_of table)) values seen)) ∙ out)
                  ∙ ap (λ (v : ℕ → ℤ). (bank_of names v, Aborted OutOfRange))
                  (sym (reads (bank_of names (values_of table)) values)))
            ]

      pub both_rows : rows_of names (Amalgamate from to) ≡ amalgamated_rows c d
      both_rows =
          ap (λ (o : Option ℕ). rows_for o (λ m. rows_for (customer_named names to) (amalgamated_rows m))) e
          ∙ ap (λ (o : Option ℕ). rows_for o (amalgamated_rows c)) f

      apart_from : (row : ℕ) (r : ℕ) → (r == row) ≡ false → ¬ (row ≡ r)
      apart_from row r h same = absurd (false≢true (sym h ∙ eq-eqb r row (sym same)))

      fits_itself : (c == d) ≡ true → Fits names (executed_on names table (Amalgamate from to))
      fits_itself same =
          let equal : c ≡ d = eqb-true c d same in
          let zeros : (values : ℕ → ℤ) → left_empty values (checking_row d) ≡ pos 0
          = λ values. ap (λ n. left_empty values (checking_row n)) (sym equal)
          ∙ ap (λ (a : Account). a.checking) (put_account-own values c empty_account) in
          let steady : (values : ℕ → ℤ) → values_of table (saving_row c) ≡ values (saving_row c)
          → values_of table (checking_row c) ≡ values (checking_row c) → new_checking (values_of table)
          ≡ new_checking values
          = λ values s k. ap₂ ◌+ℤ◌ (zeros (values_of table) ∙ sym (zeros values)) (ap₂ ◌+ℤ◌ s k) in
          fits_amalgamated (saving_row c ∷ checking_row c ∷ []) (both_rows ∙ cond-true (c == d) _ _ same)
          (λ bank values seen. steady values seen.0 seen.1.0) (λ bank values seen. steady values seen.0 seen.1.0)
          (λ bank values. refl)
          (exact_itself equal)
          (λ values row none.
          let parts = or_parts (saving_row c == row) (list_any (λ r. r == row) (checking_row c ∷ [])) none in
          let part = or_parts (checking_row c == row) false parts.1 in
          result-elsewhere values row (apart_from row (saving_row c) parts.0) (apart_from row (checking_row c) part.0)
          (λ h. apart_from row (checking_row c) part.0 (h ∙ ap checking_row (sym equal))))
        where
          exact_itself : c ≡ d → (values : ℕ → ℤ) → new_checking (values_of table) ≡ new_checking values → (row : ℕ)
              → In row (saving_row c ∷ checking_row c ∷ [])
              → value_in names (result_bank (values_of table)) row ≡ result_of values row
          exact_itself equal values stays row here = noted_sender_saving ∙ result-saving (values_of table)
              ∙ sym (result-saving values)
          exact_itself equal values stays row (there here) =
              noted_sender ∙ ap (λ n. result_of (values_of table) (checking_row n)) equal
              ∙ result-receiver (values_of table) ∙ stays
              ∙ sym (ap (λ n. result_of values (checking_row n)) equal ∙ result-receiver values)
          exact_itself equal values stays row (there (there i)) = elim i [ ]

      fits_another : (c == d) ≡ false → Fits names (executed_on names table (Amalgamate from to))
      fits_another other =
          let apart : ¬ (d ≡ c) = λ h. absurd (false≢true (sym other ∙ eq-eqb c d (sym h))) in
          let keeps : (values : ℕ → ℤ) → left_empty values (checking_row d) ≡ values (checking_row d)
          = λ values. ap (λ (a : Account). a.checking) (put_account-other values c d empty_account apart) in
          let steady : (values : ℕ → ℤ) → values_of table (saving_row c) ≡ values (saving_row c)
          → values_of table (checking_row c) ≡ values (checking_row c)
          → values_of table (checking_row d) ≡ values (checking_row d) → new_checking (values_of table)
          ≡ new_checking values
          = λ values s k r. ap₂ ◌+ℤ◌ (keeps (values_of table) ∙ r ∙ sym (keeps values)) (ap₂ ◌+ℤ◌ s k) in
          fits_amalgamated (saving_row c ∷ checking_row c ∷ checking_row d ∷ [])
          (both_rows ∙ cond-false (c == d) _ _ other)
          (λ bank values seen. steady values seen.0 seen.1.0 seen.1.1.0)
          (λ bank values seen. steady values seen.0 seen.1.0 seen.1.1.0) (λ bank values. refl)
          (exact_another apart)
          (λ values row none.
          let parts = or_parts (saving_row c == row) (list_any (λ r. r == row) (checking_row c ∷ checking_row d ∷ []))
          none in
          let part = or_parts (checking_row c == row) (list_any (λ r. r == row) (checking_row d ∷ [])) parts.1 in
          let last = or_parts (checking_row d == row) false part.1 in
          result-elsewhere values row (apart_from row (saving_row c) parts.0) (apart_from row (checking_row c) part.0)
          (apart_from row (checking_row d) last.0))
        where
          checking_apart : (m n : ℕ) → ¬ (n ≡ m) → 2 * m + 1 ≡ 2 * n + 1 → ⊥
          checking_apart m n a h = a (omega arith)

          emptied : ¬ (d ≡ c) → (values : ℕ → ℤ) → result_of values (checking_row c) ≡ pos 0
          emptied apart values =
              result-other values (checking_row c) (λ h. checking_apart c d apart h)
              ∙ ap (λ (a : Account). a.checking) (put_account-own values c empty_account)

          exact_another : ¬ (d ≡ c) → (values : ℕ → ℤ) → new_checking (values_of table) ≡ new_checking values
              → (row : ℕ)
              → In row (saving_row c ∷ checking_row c ∷ checking_row d ∷ [])
              → value_in names (result_bank (values_of table)) row ≡ result_of values row
          exact_another apart values stays row here = noted_sender_saving ∙ result-saving (values_of table)
              ∙ sym (result-saving values)
          exact_another apart values stays row (there here) = noted_sender ∙ emptied apart (values_of table)
              ∙ sym (emptied apart values)
          exact_another apart values stays row (there (there here)) = noted_receiver ∙ result-receiver (values_of table)
              ∙ stays ∙ sym (result-receiver values)
          exact_another apart values stays row (there (there (there i))) = elim i [ ]

  pub no_sender : (from to : List ℕ) → customer_named names from ≡ None → (values : ℕ → ℤ)
      → does (bank_of names values) (Amalgamate from to) ≡ (bank_of names values, Aborted NoSuchName)
  unfolding does
  no_sender from to e values =
      ap (λ (a : Option Account). with_account (bank_of names values) a (amalgamate (bank_of names values) from to))
      (found names values from None e)

  pub no_receiver : (from to : List ℕ) (c : ℕ) → customer_named names from ≡ Some c → customer_named names to ≡ None
      → (values : ℕ → ℤ)
      → does (bank_of names values) (Amalgamate from to) ≡ (bank_of names values, Aborted NoSuchName)
  unfolding does
  no_receiver from to c e f values =
      ap (λ (a : Option Account). with_account (bank_of names values) a (amalgamate (bank_of names values) from to))
      (found names values from (Some c) e)
      ∙ ap (λ (a : Option Account). with_account (bank_of names values) a
      (moved (bank_of names values) (insert (bank_of names values) from empty_account) to
      (values (saving_row c) +ℤ values (checking_row c))))
      (ap (λ (bank : Bank). get bank to) (insert-bank_of names values from c empty_account e)
      ∙ found names (put_account values c empty_account) to None f)

  fits_amalgamate : (from to : List ℕ) (o p : Option ℕ) → customer_named names from ≡ o → customer_named names to ≡ p
      → Fits names (executed_on names table (Amalgamate from to))
  fits_amalgamate from to None p e f =
      missing (Amalgamate from to) (no_sender from to e)
      (ap (λ (o : Option ℕ). rows_for o (λ m. rows_for (customer_named names to) (amalgamated_rows m))) e)
  fits_amalgamate from to (Some c) None e f =
      missing (Amalgamate from to) (no_receiver from to c e f)
      (ap (λ (o : Option ℕ). rows_for o (λ m. rows_for (customer_named names to) (amalgamated_rows m))) e
      ∙ ap (λ (o : Option ℕ). rows_for o (amalgamated_rows c)) f)
  fits_amalgamate from to (Some c) (Some d) e f =
      elim (cases_Bool (c == d)) [
        | inl same ↦ fits_itself from to c d e f same
        | inr other
            ↦ fits_another from to c d e f other
      ]

pub always_fits : (names : List (List ℕ)) (table : Table) (request : Request)
    → Fits names (executed_on names table request)
always_fits names table (Balance name) = fits_balance names table name (customer_named names name) refl
always_fits names table (DepositChecking name amount) = fits_deposit names table name amount (customer_named names name)
    refl
always_fits names table (TransactSaving name amount) = fits_transact names table name amount (customer_named names name)
    refl
always_fits names table (Amalgamate from to) = fits_amalgamate names table from to (customer_named names from)
    (customer_named names to) refl refl
always_fits names table (WriteCheck name amount) = fits_check names table name amount (customer_named names name) refl
