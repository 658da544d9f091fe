-- The token of a batch that is attempted in serial mode, with nothing open, follows from the balances before it.
use Rattle.std.proofs.Common.{◌≡◌, ℕ, ℤ, zero, suc, ◌+◌, ◌==◌, true, List, [], ◌∷◌, ◌++◌, map, length, slice_get, Some}
use Rattle.std.proofs.Common.{refl, sym, subst, ap, ap₂, ◌∙◌, append_assoc, arith, length-append}
use Rattle.std.specs.Prelude.{if◌then◌else◌, slice_index_or}
use Rattle.std.specs.List.{AllByRecursion}
use Rattle.std.proofs.lemmas.Bool.{and_parts, eqb-true}
use Rattle.std.proofs.lemmas.List.{length-map}
use Rattle.std.proofs.lemmas.List.Sorted.{IsPermutation-map, length_permutation}
use Rattle.std.proofs.lemmas.Option.{get_or_from_slice_get, same_Some}
use Rattle.eve_smallbank.specs.declared.entry.Kind.{Kind}
use Rattle.eve_smallbank.specs.declared.entry.Kind.TheVariants.{Read, Write}
use Rattle.eve_smallbank.specs.declared.request.Reply.{Reply}
use Rattle.eve_smallbank.specs.SmallBank.{Bank, Request, does}
use Rattle.eve_smallbank.specs.Access.{Executed, RowKinds, writes_row, rows_of, noted_rows, bank_of}
use Rattle.eve_smallbank.specs.Access.{values_after, balance_of_row, Fits}
use Rattle.eve_smallbank.specs.Chain.{Table, Sees, table_after, table_after_all, values_of}
use Rattle.eve_smallbank.specs.Execution.{value_left, entry_on, executed_on}
use Rattle.eve_smallbank.proofs.Chains.{Follows, follows_chain, values_of-table_after}
use Rattle.eve_smallbank.proofs.Unique.{made_of_table}
use Rattle.eve_grammar.specs.Certificate.{counts_from, keeps_groups}
use Rattle.eve_grammar.specs.Trace.{Attempt, Batch}
use Rattle.eve_stamps.specs.Applied.{Applied}
use Rattle.eve_token.specs.Token.{token_of}
use Rattle.eve_votes.proofs.Places.{get_between}
use Rattle.eve_history.specs.Section.{no_batch}
use Rattle.eve_chains.specs.Committed.{first_rows}
use Rattle.eve_agree.proofs.TokensInOrder.{rows_are}
use Rattle.eve_attempts.specs.Ledgers.{Ledger, Opened, table_now}
use Rattle.eve_attempts.specs.ClosedAttempts.{executed, indexes_of}
use Rattle.eve_grammar.specs.Trace.{request_with}
use Rattle.eve_attempts.proofs.TickOrder.{all_moved}
use Rattle.eve_replica.specs.Sections.{RunPlan, AttemptsNext, place_due}

-- ---- requests on values, whatever the versions

-- every row at version 0
abbrev unversioned : (ℕ → ℤ) → Table
unversioned values row = record { version = 0; value = values row }

-- the request, executed on these values
abbrev executed_on_values : List (List ℕ) → (ℕ → ℤ) → Request → Executed
executed_on_values names values request = executed_on names (unversioned values) request

-- what requests leave of these values, one after another
abbrev values_along : List (List ℕ) → (ℕ → ℤ) → List Request → ℕ → ℤ
values_along names values [] = values
values_along names values (request ∷ requests) =
    values_along names (values_after values (executed_on_values names values request).entries) requests

-- and their replies
abbrev replies_along : List (List ℕ) → (ℕ → ℤ) → List Request → List Reply
replies_along names values [] = []
replies_along names values (request ∷ requests) =
    (executed_on_values names values request).reply
    ∷ replies_along names (values_after values (executed_on_values names values request).entries) requests

left_on_values : (names : List (List ℕ)) (table : Table) (bank : Bank) (row : ℕ) (kind : Kind)
    → value_left names table bank row kind ≡ value_left names (unversioned (values_of table)) bank row kind
left_on_values names table bank row Read = refl
left_on_values names table bank row Write = refl

-- entries leave the same values, whatever versions they saw
noted_on_values : (names : List (List ℕ)) (table : Table) (bank : Bank) (rows : RowKinds) (values : ℕ → ℤ)
    → values_after values (map (entry_on names table bank) rows)
    ≡ values_after values (map (entry_on names (unversioned (values_of table)) bank) rows)
noted_on_values names table bank [] values = refl
noted_on_values names table bank (r ∷ rows) values =
    noted_on_values names table bank rows
    (λ row. if writes_row row (entry_on names table bank r) then value_left names table bank r.0 r.1 else values row)
    ∙ ap (λ (left : ℤ). values_after
    (λ row. if writes_row row (entry_on names table bank r) then left else values row)
    (map (entry_on names (unversioned (values_of table)) bank) rows))
    (left_on_values names table bank r.0 r.1)

module _ (names : List (List ℕ)) where
  -- one record that fits
  module _ (table : Table) (x : Executed) (fits : Fits names x) (sees : AllByRecursion (Sees table) x.entries) where
    one_reply : x.reply ≡ (executed_on_values names (values_of table) x.request).reply
    one_reply = ap (λ (y : Executed). y.reply) (made_of_table names table x fits sees)

    one_left : values_of (table_after table x.entries)
        ≡ values_after (values_of table) (executed_on_values names (values_of table) x.request).entries
    one_left =
        let outcome : Bank × Reply = does (bank_of names (values_of table)) x.request in
        values_of-table_after table x.entries
        ∙ ap (λ (y : Executed). values_after (values_of table) y.entries) (made_of_table names table x fits sees)
        ∙ noted_on_values names table outcome.0 (noted_rows outcome.1 (rows_of names x.request)) (values_of table)

  -- records that fit and follow a table, one after another
  left_along : (table : Table) (xs : List Executed) → AllByRecursion (Fits names) xs → Follows table xs
      → values_of (table_after_all table xs) ≡ values_along names (values_of table) (map (λ x. x.request) xs)
  left_along table [] fits follows = refl
  left_along table (x ∷ xs) fits follows =
      left_along (table_after table x.entries) xs fits.1 follows.1
      ∙ ap (λ (values : ℕ → ℤ). values_along names values (map (λ y. y.request) xs))
      (one_left table x fits.0 follows.0)

  replied_along : (table : Table) (xs : List Executed) → AllByRecursion (Fits names) xs → Follows table xs
      → map (λ x. x.reply) xs ≡ replies_along names (values_of table) (map (λ x. x.request) xs)
  replied_along table [] fits follows = refl
  replied_along table (x ∷ xs) fits follows =
      ap₂ (λ (y : Reply) (ys : List Reply). y ∷ ys) (one_reply table x fits.0 follows.0)
      (replied_along (table_after table x.entries) xs fits.1 follows.1
      ∙ ap (λ (values : ℕ → ℤ). replies_along names values (map (λ y. y.request) xs))
      (one_left table x fits.0 follows.0))

-- ---- the listed order

-- the given number of numbers from n on, one after another
abbrev count_on : ℕ → ℕ → List ℕ
count_on n zero = []
count_on n (suc many) = n ∷ count_on (suc n) many

counted_on : (n : ℕ) (order : List ℕ) → counts_from n order ≡ true → order ≡ count_on n (length order)
counted_on n [] counts = refl
counted_on n (i ∷ order) counts =
    let parts = and_parts (i == n) (counts_from (suc n) order) counts in
    ap₂ (λ (j : ℕ) (js : List ℕ). j ∷ js) (eqb-true i n parts.0) (counted_on (suc n) order parts.1)

-- the requests of a batch as it lists them
abbrev listed : Batch → List Request
listed b = map (request_with b) (count_on 0 (length b.requests))

requests_executed : (b : Batch) (rs : List Applied) → map (λ x. x.request) (map (executed b) rs)
    ≡ map (request_with b) (indexes_of rs)
requests_executed b [] = refl
requests_executed b (r ∷ rs) = ap (λ (qs : List Request). request_with b r.index ∷ qs) (requests_executed b rs)

-- replies by index are the records' in the listed order
replies_listed : (b : Batch) (n : ℕ) (before rest : List Reply) (rs : List Applied) → length before ≡ n
    → length rest ≡ length rs → counts_from n (indexes_of rs) ≡ true
    → AllByRecursion (λ r. slice_get (before ++ rest) r.index ≡ Some r.reply) rs
    → rest ≡ map (λ x. x.reply) (map (executed b) rs)
replies_listed b n before [] [] at many counts replies = refl
replies_listed b n before [] (r ∷ rs) at many counts replies = absurd (omega arith)
replies_listed b n before (x ∷ rest) [] at many counts replies = absurd (omega arith)
replies_listed b n before (x ∷ rest) (r ∷ rs) at many counts replies =
    let parts = and_parts (r.index == n) (counts_from (suc n) (indexes_of rs)) counts in
    let here : x ≡ r.reply = same_Some x r.reply
    (sym (get_between before x rest)
    ∙ ap (slice_get (before ++ x ∷ rest)) (at ∙ sym (eqb-true r.index n parts.0)) ∙ replies.0) in
    ap₂ (λ (y : Reply) (ys : List Reply). y ∷ ys) here
    (replies_listed b (suc n) (before ++ x ∷ []) rest rs (length-append before (x ∷ []) ∙ omega (arith, at))
    (omega arith) parts.1
    (subst (λ (ys : List Reply). AllByRecursion (λ q. slice_get ys q.index ≡ Some q.reply) rs)
    (sym (append_assoc before (x ∷ []) rest)) replies.1))

-- ---- the token

-- the token of the batch after number `committed`, run as it lists its requests from these balances
abbrev pub serial_token : RunPlan → ℕ → List ℤ → List ℕ
serial_token p committed balances =
    let requests = listed (slice_index_or p.batches committed no_batch) in
    token_of p.first.version (committed + 1)
    (first_rows (length balances) (values_along p.names (balance_of_row balances) requests))
    (replies_along p.names (balance_of_row balances) requests)

module _ (p : RunPlan) (old new : Ledger) (a : Attempt) (made : AttemptsNext p old new a)
    (serial : old.is_next_serial ≡ true) (none : ◌≡◌ {A = List Opened} old.opened [])
    (version : old.version ≡ p.first.version) where
  abbrev b : Batch
  b = made.batch

  abbrev ordered : List Applied
  ordered = made.closed.ordered

  abbrev ran : List Executed
  ran = map (executed b) ordered

  counts : counts_from 0 (indexes_of ordered) ≡ true
  counts =
      let parts = and_parts (keeps_groups b.sizes (length b.requests) (indexes_of ordered)) _
      made.closed.right.certificate in
      ap (λ s. if s then counts_from 0 (indexes_of ordered) else true) (sym serial) ∙ parts.1

  as_many : length ordered ≡ length made.records
  as_many = length_permutation made.records ordered made.closed.by_ticks.same

  requests_ran : map (λ x. x.request) ran ≡ listed b
  requests_ran =
      requests_executed b ordered
      ∙ ap (map (request_with b))
      (counted_on 0 (indexes_of ordered) counts
      ∙ ap (count_on 0) (length-map ordered (λ r. r.index) ∙ as_many ∙ made.closed.right.noted.many))

  replies_ran : a.replies ≡ map (λ x. x.reply) ran
  replies_ran =
      replies_listed b 0 [] a.replies ordered refl (made.closed.attempt.many ∙ sym as_many) counts
      (all_moved (λ r. slice_get a.replies r.index ≡ Some r.reply) made.records ordered made.closed.by_ticks.same
      made.closed.attempt.replies)

  fits : AllByRecursion (Fits p.names) ran
  fits =
      all_moved (Fits p.names) (map (executed b) made.records) ran
      (IsPermutation-map (executed b) made.records ordered made.closed.by_ticks.same)
      (made.closed.right.noted.fit p.names refl)

  follows : Follows (table_now old) ran
  follows = follows_chain (table_now old) [] ran made.closed.right.chained

  balances_left : new.rows.balances
      ≡ first_rows (length old.rows.balances)
      (values_along p.names (balance_of_row old.rows.balances) (listed b))
  balances_left =
      rows_are new.rows.balances
      ∙ ap (λ (n : ℕ). first_rows n (balance_of_row new.rows.balances)) made.closed.opens.as_many
      ∙ ap (λ (table : Table). first_rows (length old.rows.balances) (values_of table)) made.closed.opens.rows
      ∙ ap (first_rows (length old.rows.balances)) (left_along p.names (table_now old) ran fits follows)
      ∙ ap (λ (requests : List Request). first_rows (length old.rows.balances)
      (values_along p.names (balance_of_row old.rows.balances) requests)) requests_ran

  replies_left : a.replies ≡ replies_along p.names (balance_of_row old.rows.balances) (listed b)
  replies_left =
      replies_ran
      ∙ replied_along p.names (table_now old) ran fits follows
      ∙ ap (replies_along p.names (balance_of_row old.rows.balances)) requests_ran

  number : a.seq ≡ old.committed + 1
  number =
      let many : length old.opened ≡ 0 = ap length none in
      made.closed.attempt.seq ∙ omega (arith, many)

  its_batch : slice_index_or p.batches old.committed no_batch ≡ b
  its_batch =
      let many : length old.opened ≡ 0 = ap length none in
      let place : old.committed ≡ place_due old = omega (arith, many) in
      ap (λ (n : ℕ). slice_index_or p.batches n no_batch) place
      ∙ get_or_from_slice_get p.batches (place_due old) b no_batch made.due

  pub token_serial : a.token ≡ serial_token p old.committed old.rows.balances
  token_serial =
      made.closed.attempt.token
      ∙ (λ i. token_of (version i) (number i) (balances_left i) (replies_left i))
      ∙ ap (λ (batch : Batch). token_of p.first.version (old.committed + 1)
      (first_rows (length old.rows.balances)
      (values_along p.names (balance_of_row old.rows.balances) (listed batch)))
      (replies_along p.names (balance_of_row old.rows.balances) (listed batch))) (sym its_batch)
