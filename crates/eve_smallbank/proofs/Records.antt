-- Public: other crates cite these lemmas. The one record that fits the values seen.
use Rattle.std.proofs.Common.{◌≡◌, ℕ, ℤ, pos, ◌+ℤ◌, ◌-ℤ◌, ◌==◌, int_lt, Bool, true, false, cond, ◌&&◌, List, [], ◌∷◌}
use Rattle.std.proofs.Common.{map, length, Option, Some, None, is_some, refl, sym, subst, ap, ap₂, ◌∙◌, arith}
use Rattle.std.specs.List.{AllByRecursion}
use Rattle.std.proofs.lemmas.List.{length-map}
use Rattle.std.proofs.lemmas.Bool.{eq-eqb, ne_eqb, cond-true, cond-false, false≢true}
use Rattle.std.proofs.lemmas.Option.{same_Some as the_same}
use Rattle.eve_accounts.specs.Money.{is_balance}
use Rattle.eve_accounts.specs.Names.{customer_named}
use Rattle.eve_accounts.specs.Rows.{saving_row, checking_row}
use Rattle.eve_smallbank.specs.declared.decision.Decision.{Decision}
use Rattle.eve_smallbank.specs.declared.decision.Effect.{Effect}
use Rattle.eve_smallbank.specs.declared.entry.Entry.{Entry}
use Rattle.eve_smallbank.specs.declared.entry.Kind.TheVariants.{Read, Write}
use Rattle.eve_smallbank.specs.declared.request.Abort.{Abort}
use Rattle.eve_smallbank.specs.declared.request.Abort.TheVariants.{NoSuchName, BadAmount, Insufficient, OutOfRange}
use Rattle.eve_smallbank.specs.declared.request.Reply.{Reply}
use Rattle.eve_smallbank.specs.declared.request.Reply.TheVariants.{Done, Aborted}
use Rattle.eve_smallbank.specs.declared.rows.Touched.{Touched}
use Rattle.eve_smallbank.specs.declared.rows.Touched.TheVariants as touched
use Rattle.eve_smallbank.specs.SmallBank.{Bank, Request, Balance, DepositChecking, TransactSaving, Amalgamate}
use Rattle.eve_smallbank.specs.SmallBank.{WriteCheck, check_cost, does}
use Rattle.eve_smallbank.specs.Access.{Executed, RowKinds, bank_of, amalgamated_rows, rows_of, noted_rows}
use Rattle.eve_smallbank.specs.Access.{Fits}
use Rattle.eve_smallbank.specs.Chain.{Table, Sees, values_of}
use Rattle.eve_smallbank.specs.Execution.{entry_on, executed_on}
use Rattle.eve_smallbank.specs.Touch.{knows_names, has_bad_amount, touched_of, rows_in}
use Rattle.eve_smallbank.specs.Decide.{effect_in, decision_in, entries_from, executed_from, IsExact}
use Rattle.eve_smallbank.specs.inner.FromValues.{only_read, written, abort_after, done_within, decided_from}
use Rattle.eve_smallbank.proofs.FittingRecords as fitting
use Rattle.eve_smallbank.proofs.FittingRecords.{always_fits}
use Rattle.eve_smallbank.proofs.Unique.{AreDistinct, numbers, numbers-as_reads, numbers-pairs, request_rows}
use Rattle.eve_smallbank.proofs.Unique.{entries_are_rows, made_of_table}
use Rattle.eve_smallbank.specs.declared.versioned.Versioned.{Versioned}
use Rattle.eve_smallbank.proofs.Banks.{rows_for}
use Rattle.eve_smallbank.proofs.DecisionLaws as deciding

-- ---- which requests are refused

-- the decision of a request that is refused
abbrev refusal : Abort → Decision
refusal why = record { reply = Aborted why; effects = [] }

-- the customers and the amount of a request that isn't refused
pub record IsAccepted (names : List (List ℕ)) (request : Request) (rows : RowKinds) : Type 0 where
  pub known : knows_names names request ≡ true
  pub amount : has_bad_amount request ≡ false
  pub own : rows_of names request ≡ rows

pub accepted : (names : List (List ℕ)) (request : Request) (rows : RowKinds) → touched_of names request
    ≡ touched.Rows rows
    → IsAccepted names request rows
accepted names request rows e = by (knows_names names request) (has_bad_amount request) refl refl e
  where
    by : (k b : Bool) → knows_names names request ≡ k → has_bad_amount request ≡ b
        → cond k (cond b (touched.Refused BadAmount) (touched.Rows (rows_of names request)))
        (touched.Refused NoSuchName) ≡ touched.Rows rows → IsAccepted names request rows
    by true false k b h = record { known = k; amount = b; own = inside (rows_of names request) rows h }
      where
        inside : (rs ss : RowKinds) → touched.Rows rs ≡ touched.Rows ss → rs ≡ ss
        inside rs ss h = cc
    by true true k b h = absurd (unlike rows h)
      where
        unlike : (rs : RowKinds) → touched.Refused BadAmount ≡ touched.Rows rs → ⊥
        unlike rs h = cc
    by false b k c h = absurd (unlike rows h)
      where
        unlike : (rs : RowKinds) → touched.Refused NoSuchName ≡ touched.Rows rs → ⊥
        unlike rs h = cc

-- of a request with one name
nobody : (o : Option ℕ) → (is_some o && true) ≡ false → o ≡ None
nobody None h = refl
nobody (Some c) h = absurd (false≢true (sym h))

somebody : (o : Option ℕ) → (is_some o && true) ≡ true → (c : ℕ) × (o ≡ Some c)
somebody None h = absurd (false≢true h)
somebody (Some c) h = (c, refl)

module _ (names : List (List ℕ)) (table : Table) where
  abbrev values_in : RowKinds → List ℤ
  values_in rows = map (λ r. (table r.0).value) rows

  -- what the values seen in the rows decide is what the request does
  abbrev IsDecided : Request → RowKinds → Type 0
  IsDecided request rows = decided_from request (values_in rows) ≡ Some (decision_in (executed_on names table request))

  of_one : (name : List ℕ) (o : Option ℕ) (request : Request) (rows : RowKinds) (of : ℕ → RowKinds)
      → customer_named names name ≡ o
      → is_some o && true ≡ true → rows_for o of ≡ rows
      → ((c : ℕ) → customer_named names name ≡ Some c → IsDecided request (of c)) → IsDecided request rows
  of_one name None request rows of e k is h = absurd (false≢true k)
  of_one name (Some c) request rows of e k is h = subst (IsDecided request) is (h c e)

  of_two : (from to : List ℕ) (o p : Option ℕ) (rows : RowKinds) → customer_named names from ≡ o
      → customer_named names to ≡ p
      → is_some o && (is_some p && true) ≡ true
      → rows_for o (λ c. rows_for p (amalgamated_rows c)) ≡ rows → IsDecided (Amalgamate from to) rows
  of_two from to None p rows e f k is = absurd (false≢true k)
  of_two from to (Some c) None rows e f k is = absurd (false≢true k)
  of_two from to (Some c) (Some d) rows e f k is = subst (IsDecided (Amalgamate from to)) is (by (c == d) refl)
    where
      by : (b : Bool) → (c == d) ≡ b → IsDecided (Amalgamate from to) (amalgamated_rows c d)
      by true same = subst (IsDecided (Amalgamate from to)) (sym (cond-true (c == d) _ _ same))
          (deciding.amalgamated_itself names table from to c d e f same)
      by false other = subst (IsDecided (Amalgamate from to)) (sym (cond-false (c == d) _ _ other))
          (deciding.amalgamated_another names table from to c d e f other)

  pub decided : (request : Request) (rows : RowKinds) → touched_of names request ≡ touched.Rows rows
      → IsDecided request rows
  decided (Balance name) rows t =
      let a = accepted names (Balance name) rows t in
      of_one name (customer_named names name) (Balance name) rows
      (λ c. (saving_row c, Read) ∷ (checking_row c, Read) ∷ [])
      refl a.known a.own (λ c e. deciding.balanced names table name c e)
  decided (DepositChecking name amount) rows t =
      let a = accepted names (DepositChecking name amount) rows t in
      of_one name (customer_named names name) (DepositChecking name amount) rows (λ c. (checking_row c, Write) ∷ [])
      refl
      a.known a.own (λ c e. deciding.deposited names table name amount c e a.amount)
  decided (TransactSaving name amount) rows t =
      let a = accepted names (TransactSaving name amount) rows t in
      of_one name (customer_named names name) (TransactSaving name amount) rows (λ c. (saving_row c, Write) ∷ []) refl
      a.known a.own (λ c e. deciding.transacted names table name amount c e)
  decided (Amalgamate from to) rows t =
      let a = accepted names (Amalgamate from to) rows t in
      of_two from to (customer_named names from) (customer_named names to) rows refl refl a.known a.own
  decided (WriteCheck name amount) rows t =
      let a = accepted names (WriteCheck name amount) rows t in
      of_one name (customer_named names name) (WriteCheck name amount) rows
      (λ c. (saving_row c, Read) ∷ (checking_row c, Write) ∷ []) refl a.known a.own
      (λ c e. deciding.checked names table name amount c e a.amount)

  -- ---- refused requests

  no_name : (request : Request) → does (bank_of names (values_of table)) request
      ≡ (bank_of names (values_of table), Aborted NoSuchName)
      → decision_in (executed_on names table request) ≡ refusal NoSuchName
  no_name request so = deciding.by_outcome names table request (bank_of names (values_of table), Aborted NoSuchName)
      (rows_of names request) so refl

  bad_amount : (request : Request) → does (bank_of names (values_of table)) request
      ≡ (bank_of names (values_of table), Aborted BadAmount)
      → decision_in (executed_on names table request) ≡ refusal BadAmount
  bad_amount request so = deciding.by_outcome names table request (bank_of names (values_of table), Aborted BadAmount)
      (rows_of names request) so refl

  unknown : (request : Request) → knows_names names request ≡ false → decision_in (executed_on names table request)
      ≡ refusal NoSuchName
  unknown (Balance name) k =
      no_name (Balance name) (fitting.balanced names table name (values_of table) None
      (nobody (customer_named names name) k))
  unknown (DepositChecking name amount) k = no_name (DepositChecking name amount)
      (fitting.deposited names table name amount (values_of table) None (nobody (customer_named names name) k))
  unknown (TransactSaving name amount) k = no_name (TransactSaving name amount)
      (fitting.transacted names table name amount (values_of table) None (nobody (customer_named names name) k))
  unknown (WriteCheck name amount) k =
      no_name (WriteCheck name amount)
      (fitting.checked names table name amount (values_of table) None (nobody (customer_named names name) k))
  unknown (Amalgamate from to) k =
      no_name (Amalgamate from to) (by (customer_named names from) (customer_named names to) refl refl k)
    where
      by : (o p : Option ℕ) → customer_named names from ≡ o → customer_named names to ≡ p
          → (is_some o && (is_some p && true))
          ≡ false
          → does (bank_of names (values_of table)) (Amalgamate from to)
          ≡ (bank_of names (values_of table), Aborted NoSuchName)
      by None p e f k = fitting.no_sender names table from to e (values_of table)
      by (Some c) None e f k = fitting.no_receiver names table from to c e f (values_of table)
      by (Some c) (Some d) e f k = absurd (false≢true (sym k))

  refused_amount : (request : Request) → knows_names names request ≡ true → has_bad_amount request ≡ true
      → decision_in (executed_on names table request) ≡ refusal BadAmount
  refused_amount (Balance name) k b = absurd (false≢true b)
  refused_amount (TransactSaving name amount) k b = absurd (false≢true b)
  refused_amount (Amalgamate from to) k b = absurd (false≢true b)
  refused_amount (DepositChecking name amount) k b =
      let c = somebody (customer_named names name) k in
      bad_amount (DepositChecking name amount)
      (fitting.deposited names table name amount (values_of table) (Some c.0) c.1
      ∙ cond-true (int_lt amount (pos 0)) _ _ b)
  refused_amount (WriteCheck name amount) k b =
      let c = somebody (customer_named names name) k in
      bad_amount (WriteCheck name amount) (fitting.checked names table name amount (values_of table) (Some c.0) c.1
      ∙ cond-true (int_lt amount (pos 0)) _ _ b)

  pub refused : (request : Request) (why : Abort) → touched_of names request ≡ touched.Refused why
      → decision_in (executed_on names table request) ≡ refusal why
  refused request why e = by (knows_names names request) (has_bad_amount request) refl refl e
    where
      inside : (a b : Abort) → touched.Refused a ≡ touched.Refused b → a ≡ b
      inside a b h = cc

      by : (k b : Bool) → knows_names names request ≡ k → has_bad_amount request ≡ b
          → cond k (cond b (touched.Refused BadAmount) (touched.Rows (rows_of names request)))
          (touched.Refused NoSuchName) ≡ touched.Refused why
          → decision_in (executed_on names table request) ≡ refusal why
      by true false k b h = absurd (unlike (rows_of names request) why h)
        where
          unlike : (rs : RowKinds) (a : Abort) → touched.Rows rs ≡ touched.Refused a → ⊥
          unlike rs a h = cc
      by true true k b h = refused_amount request k b ∙ ap refusal (inside BadAmount why h)
      by false b k c h = unknown request k ∙ ap refusal (inside NoSuchName why h)

-- ---- a table that has what was seen

-- what these rows have, one version and value for each
pub table_from : List ℕ → List ℕ → List ℤ → Table
table_from (row ∷ rows) (version ∷ versions) (z ∷ values) =
    λ r. cond (r == row) (record { version = version; value = z }) (table_from rows versions values r)
table_from rows versions values = λ r. record { version = 0; value = pos 0 }

-- a row more leaves the others
beside : {A : Type 0} (f : Versioned → A) (row : ℕ) (v : Versioned) (table : Table) (rows : List ℕ)
    → AllByRecursion (λ other. ¬ (other ≡ row)) rows
    → map (λ r. f (cond (r == row) v (table r))) rows ≡ map (λ r. f (table r)) rows
beside f row v table [] apart = refl
beside {A} f row v table (r ∷ rows) apart =
    ap₂ (λ (x : A) (xs : List A). x ∷ xs) (ap f (cond-false (r == row) v (table r) (ne_eqb r row apart.0)))
    (beside f row v table rows apart.1)

same_head : {A : Type 0} (f : Versioned → A) (row : ℕ) (v w : Versioned) → f (cond (row == row) v w) ≡ f v
same_head f row v w = ap f (cond-true (row == row) v w (eq-eqb row row refl))

has_versions : (rows versions : List ℕ) (values : List ℤ) → AreDistinct rows → length versions ≡ length rows
    → length values ≡ length rows
    → map (λ r. (table_from rows versions values r).version) rows ≡ versions
unfolding table_from
has_versions [] [] values distinct m n = refl
has_versions [] (v ∷ versions) values distinct m n = absurd (omega arith)
has_versions (row ∷ rows) [] values distinct m n = absurd (omega arith)
has_versions (row ∷ rows) (v ∷ versions) [] distinct m n = absurd (omega arith)
has_versions (row ∷ rows) (v ∷ versions) (z ∷ values) distinct m n =
    ap₂ (λ (x : ℕ) (xs : List ℕ). x ∷ xs)
    (same_head (λ w. w.version) row (record { version = v; value = z }) (table_from rows versions values row))
    (beside (λ w. w.version) row (record { version = v; value = z }) (table_from rows versions values) rows distinct.0
    ∙ has_versions rows versions values distinct.1 (omega arith) (omega arith))

pub has_values : (rows versions : List ℕ) (values : List ℤ) → AreDistinct rows → length versions ≡ length rows
    → length values ≡ length rows
    → map (λ r. (table_from rows versions values r).value) rows ≡ values
unfolding table_from
has_values [] versions [] distinct m n = refl
has_values [] versions (z ∷ values) distinct m n = absurd (omega arith)
has_values (row ∷ rows) versions [] distinct m n = absurd (omega arith)
has_values (row ∷ rows) [] (z ∷ values) distinct m n = absurd (omega arith)
has_values (row ∷ rows) (v ∷ versions) (z ∷ values) distinct m n =
    ap₂ (λ (x : ℤ) (xs : List ℤ). x ∷ xs)
    (same_head (λ w. w.value) row (record { version = v; value = z }) (table_from rows versions values row))
    (beside (λ w. w.value) row (record { version = v; value = z }) (table_from rows versions values) rows distinct.0
    ∙ has_values rows versions values distinct.1 (omega arith) (omega arith))

sees_beside : (row : ℕ) (v : Versioned) (table : Table) (es : List Entry)
    → AllByRecursion (λ other. ¬ (other ≡ row)) (map (λ e. e.row) es) → AllByRecursion (Sees table) es
    → AllByRecursion (Sees (λ r. cond (r == row) v (table r))) es
sees_beside row v table [] apart sees = tt
sees_beside row v table (e ∷ es) apart sees = (
  record {
    version = sees.0.version
        ∙ ap (λ (w : Versioned). w.version)
        (sym (cond-false (e.row == row) v (table e.row) (ne_eqb e.row row apart.0)));
    value = sees.0.value ∙ ap (λ (w : Versioned). w.value)
        (sym (cond-false (e.row == row) v (table e.row) (ne_eqb e.row row apart.0)));
  },
  sees_beside row v table es apart.1 sees.1,
)

-- entries of distinct rows see a table of their own
sees_own : (es : List Entry) → AreDistinct (map (λ e. e.row) es)
    → AllByRecursion (Sees (table_from (map (λ e. e.row) es) (map (λ e. e.version) es) (map (λ e. e.seen) es))) es
unfolding table_from
sees_own [] distinct = tt
sees_own (e ∷ es) distinct = (
  record {
    version = sym (same_head (λ w. w.version) e.row (record { version = e.version; value = e.seen }) (own e.row));
    value = sym (same_head (λ w. w.value) e.row (record { version = e.version; value = e.seen }) (own e.row));
  },
  sees_beside e.row (record { version = e.version; value = e.seen }) own es distinct.0 (sees_own es distinct.1),
)
  where
    own : Table
    own = table_from (map (λ e. e.row) es) (map (λ e. e.version) es) (map (λ e. e.seen) es)

-- ---- which rows a decision notes

abbrev NotesAll : Reply → Type 0
NotesAll reply = (rows : RowKinds) → numbers (noted_rows reply rows) ≡ numbers rows

notes_within : (b : Bool) (effects : List Effect) (seen : List ℤ)
    → NotesAll (cond b (record { reply = Done; effects = effects }) (abort_after OutOfRange seen)).reply
notes_within true effects seen = λ rows. refl
notes_within false effects seen = numbers-as_reads

notes_saved : (b : Bool) (d : Decision) (seen : List ℤ) → NotesAll d.reply
    → NotesAll (cond b (abort_after Insufficient seen) d).reply
notes_saved true d seen all = numbers-as_reads
notes_saved false d seen all = all

nothing : (d : Decision) → ◌≡◌ {A = Option Decision} None (Some d) → ⊥
nothing d h = cc

-- what is decided from values notes all rows of the request
notes_all : (request : Request) (values : List ℤ) (d : Decision) → decided_from request values ≡ Some d
    → NotesAll d.reply
notes_all (Balance name) (saving ∷ checking ∷ []) d e = subst NotesAll (ap (λ (c : Decision). c.reply) (the_same _ d e))
    (λ rows. refl)
notes_all (DepositChecking name amount) (checking ∷ []) d e =
    subst NotesAll (ap (λ (c : Decision). c.reply) (the_same _ d e))
    (notes_within (is_balance (checking +ℤ amount)) (written (checking +ℤ amount) ∷ []) (checking ∷ []))
notes_all (TransactSaving name amount) (saving ∷ []) d e =
    subst NotesAll (ap (λ (c : Decision). c.reply) (the_same _ d e))
    (notes_saved (int_lt (saving +ℤ amount) (pos 0))
    (done_within (saving ∷ []) (saving +ℤ amount) (written (saving +ℤ amount) ∷ [])) (saving ∷ [])
    (notes_within (is_balance (saving +ℤ amount)) (written (saving +ℤ amount) ∷ []) (saving ∷ [])))
notes_all (Amalgamate from to) (saving ∷ checking ∷ []) d e =
    let after : ℤ = pos 0 +ℤ (saving +ℤ checking) in
    subst NotesAll (ap (λ (c : Decision). c.reply) (the_same _ d e))
    (notes_within (is_balance after) (written (pos 0) ∷ written after ∷ []) (saving ∷ checking ∷ []))
notes_all (Amalgamate from to) (saving ∷ checking ∷ receiver ∷ []) d e =
    let after : ℤ = receiver +ℤ (saving +ℤ checking) in
    subst NotesAll (ap (λ (c : Decision). c.reply) (the_same _ d e))
    (notes_within (is_balance after) (written (pos 0) ∷ written (pos 0) ∷ written after ∷ [])
    (saving ∷ checking ∷ receiver ∷ []))
notes_all (WriteCheck name amount) (saving ∷ checking ∷ []) d e =
    let after : ℤ = checking -ℤ check_cost (record { saving = saving; checking = checking }) amount in
    subst NotesAll (ap (λ (c : Decision). c.reply) (the_same _ d e))
    (notes_within (is_balance after) (only_read saving ∷ written after ∷ []) (saving ∷ checking ∷ []))
notes_all request values d e = absurd (nothing d e)

-- ---- entries put together again

no_entries : (rows : RowKinds) (versions : List ℕ) (values : List ℤ) → entries_from rows versions values [] ≡ []
no_entries [] versions values = refl
no_entries (r ∷ rows) [] values = refl
no_entries (r ∷ rows) (v ∷ versions) [] = refl
no_entries (r ∷ rows) (v ∷ versions) (z ∷ values) = refl

-- entries whose rows have these numbers are made of what they have
made_of_parts : (rows : RowKinds) (es : List Entry) → map (λ e. e.row) es ≡ numbers rows
    → es ≡ entries_from rows (map (λ e. e.version) es) (map (λ e. e.seen) es) (map effect_in es)
made_of_parts rows [] same = sym (no_entries rows [] [])
made_of_parts [] (e ∷ es) same = absurd (more e.row (map (λ d. d.row) es) same)
  where
    more : (n : ℕ) (ns : List ℕ) → n ∷ ns ≡ [] → ⊥
    more n ns h = cc
made_of_parts (r ∷ rows) (e ∷ es) same =
    let parts = heads e.row r.0 (map (λ d. d.row) es) (numbers rows) same in
    ap₂ (λ (d : Entry) (ds : List Entry). d ∷ ds)
    (λ i. record { row = parts.0 i; kind = e.kind; version = e.version; seen = e.seen; after = e.after })
    (made_of_parts rows es parts.1)
  where
    heads : (m n : ℕ) (ms ns : List ℕ) → m ∷ ms ≡ n ∷ ns → (m ≡ n) × (ms ≡ ns)
    heads m n ms ns h = (cc, cc)

seen_values_of : (table : Table) (es : List Entry) → AllByRecursion (Sees table) es → map (λ e. e.seen) es
    ≡ map (λ n. (table n).value) (map (λ e. e.row) es)
seen_values_of table [] sees = refl
seen_values_of table (e ∷ es) sees = ap₂ (λ (z : ℤ) (zs : List ℤ). z ∷ zs) sees.0.value (seen_values_of table es sees.1)

values_at : (table : Table) (rows : RowKinds) → map (λ n. (table n).value) (numbers rows)
    ≡ map (λ r. (table r.0).value) rows
values_at table [] = refl
values_at table (r ∷ rows) = ap (λ (zs : List ℤ). (table r.0).value ∷ zs) (values_at table rows)

-- what an execution noted sees its table
pub noted_sees : (names : List (List ℕ)) (table : Table) (bank : Bank) (rows : RowKinds)
    → AllByRecursion (Sees table) (map (entry_on names table bank) rows)
noted_sees names table bank [] = tt
noted_sees names table bank (r ∷ rows) = (record { version = refl; value = refl }, noted_sees names table bank rows)

-- the rows of a record that fits, where its request isn't refused
noted_numbers : (names : List (List ℕ)) (table : Table) (x : Executed) (rows : RowKinds) → Fits names x
    → AllByRecursion (Sees table) x.entries → touched_of names x.request ≡ touched.Rows rows
    → map (λ e. e.row) x.entries ≡ numbers rows
noted_numbers names table x rows fits sees t =
    let made : x ≡ executed_on names table x.request = made_of_table names table x fits sees in
    let all : NotesAll (executed_on names table x.request).reply
    = notes_all x.request (values_in names table rows) (decision_in (executed_on names table x.request))
    (decided names table x.request rows t) in
    sym (numbers-pairs x.entries) ∙ ap numbers fits.rows
    ∙ subst NotesAll (ap (λ (y : Executed). y.reply) (sym made)) all (rows_of names x.request)
    ∙ ap numbers (accepted names x.request rows t).own

remade : (x : Executed) (rows : RowKinds) → map (λ e. e.row) x.entries ≡ numbers rows
    → x ≡ executed_from x.request rows (map (λ e. e.version) x.entries) (map (λ e. e.seen) x.entries) (decision_in x)
remade x rows same = λ i. record { request = x.request; reply = x.reply; entries = made_of_parts rows x.entries same i }

no_effects : (es : List Entry) → map effect_in es ≡ [] → es ≡ []
no_effects [] h = refl
no_effects (e ∷ es) h = absurd (more (effect_in e) (map effect_in es) h)
  where
    more : (f : Effect) (fs : List Effect) → f ∷ fs ≡ [] → ⊥
    more f fs h = cc

-- ---- the record that is decided on fits

seen_versions_of : (table : Table) (es : List Entry) → AllByRecursion (Sees table) es → map (λ e. e.version) es
    ≡ map (λ n. (table n).version) (map (λ e. e.row) es)
seen_versions_of table [] sees = refl
seen_versions_of table (e ∷ es) sees = ap₂ (λ (n : ℕ) (ns : List ℕ). n ∷ ns) sees.0.version
    (seen_versions_of table es sees.1)

versions_at : (table : Table) (rows : RowKinds) → map (λ n. (table n).version) (numbers rows)
    ≡ map (λ r. (table r.0).version) rows
versions_at table [] = refl
versions_at table (r ∷ rows) = ap (λ (ns : List ℕ). (table r.0).version ∷ ns) (versions_at table rows)

fits_on : (names : List (List ℕ)) (table : Table) (x : Executed) (rows : RowKinds) (decision : Decision) → Fits names x
    → AllByRecursion (Sees table) x.entries
    → touched_of names x.request ≡ touched.Rows rows → decision ≡ decision_in x
    → Fits names (executed_from x.request rows (map (λ r. (table r.0).version) rows) (map (λ r. (table r.0).value) rows)
    decision)
fits_on names table x rows decision fits sees t d =
    let numbered = noted_numbers names table x rows fits sees t in
    let same_versions : map (λ e. e.version) x.entries ≡ map (λ r. (table r.0).version) rows
    = seen_versions_of table x.entries sees ∙ ap (map (λ n. (table n).version)) numbered ∙ versions_at table rows in
    let same_values : map (λ e. e.seen) x.entries ≡ map (λ r. (table r.0).value) rows
    = seen_values_of table x.entries sees ∙ ap (map (λ n. (table n).value)) numbered ∙ values_at table rows in
    let same : x ≡ executed_from x.request rows (map (λ r. (table r.0).version) rows)
    (map (λ r. (table r.0).value) rows) decision
    = remade x rows numbered ∙ (λ i. executed_from x.request rows (same_versions i) (same_values i) (sym d i)) in
    subst (Fits names) same fits

distinct_rows : (names : List (List ℕ)) (request : Request) (rows : RowKinds) → touched_of names request
    ≡ touched.Rows rows
    → AreDistinct (numbers rows)
distinct_rows names request rows t = subst (λ (rs : RowKinds). AreDistinct (numbers rs))
    (accepted names request rows t).own
    (request_rows names request).distinct

fits_rows : (names : List (List ℕ)) (request : Request) (rows : RowKinds) (versions : List ℕ) (values : List ℤ)
    (decision : Decision) → touched_of names request ≡ touched.Rows rows
    → length versions ≡ length rows → length values ≡ length rows → IsExact names request rows values decision
    → Fits names (executed_from request rows versions values decision)
fits_rows names request rows versions values decision t m n right =
    let table : Table = table_from (numbers rows) versions values in
    let distinct = distinct_rows names request rows t in
    let count : length (numbers rows) ≡ length rows = length-map rows (λ r. r.0) in
    let shown : values ≡ map (λ r. (table r.0).value) rows
    = sym (has_values (numbers rows) versions values distinct (m ∙ sym count) (n ∙ sym count)) ∙ values_at table rows in
    let versioned : versions ≡ map (λ r. (table r.0).version) rows
    = sym (has_versions (numbers rows) versions values distinct (m ∙ sym count) (n ∙ sym count))
    ∙ versions_at table rows in
    subst (λ (vs : List ℕ). Fits names (executed_from request rows vs values decision)) (sym versioned)
    (subst (λ (zs : List ℤ). Fits names (executed_from request rows (map (λ r. (table r.0).version) rows) zs decision))
    (sym shown)
    (fits_on names table (executed_on names table request) rows decision (always_fits names table request)
    (noted_sees names table (does (bank_of names (values_of table)) request).0
    (noted_rows (does (bank_of names (values_of table)) request).1 (rows_of names request)))
    t (right table shown)))

-- a record whose decision is a refusal has no entries
fits_refused : (names : List (List ℕ)) (x : Executed) (why : Abort) (versions : List ℕ) (values : List ℤ)
    (decision : Decision) → decision_in x ≡ record { reply = Aborted why; effects = [] }
    → decision ≡ decision_in x → x ≡ executed_from x.request [] versions values decision
fits_refused names x why versions values decision is d =
    λ i. record {
      request = x.request;
      reply = (sym d i).reply;
      entries = no_effects x.entries
          (ap (λ (c : Decision). c.effects) is) i;
    }

pub fits_decided : (names : List (List ℕ)) (request : Request) (reached : Touched) (versions : List ℕ) (values : List ℤ)
    (decision : Decision) → touched_of names request ≡ reached
    → length versions ≡ length values → length values ≡ length (rows_in reached)
    → IsExact names request (rows_in reached) values decision
    → Fits names (executed_from request (rows_in reached) versions values decision)
fits_decided names request (touched.Rows rows) versions values decision t m n right =
    fits_rows names request rows versions values decision t (m ∙ n) n right
fits_decided names request (touched.Refused why) versions [] decision t m n right =
    let table : Table = λ r. record { version = 0; value = pos 0 } in
    subst (Fits names) (fits_refused names (executed_on names table request) why versions [] decision
    (refused names table request why t) (right table refl)) (always_fits names table request)
fits_decided names request (touched.Refused why) versions (z ∷ values) decision t m n right = absurd (omega arith)

-- ---- and no other does

-- the rows of a record that fits
pub touches_rows : (names : List (List ℕ)) (x : Executed) → Fits names x → map (λ e. e.row) x.entries
    ≡ numbers (rows_in (touched_of names x.request))
touches_rows names x fits =
    let table : Table = table_from (map (λ e. e.row) x.entries) (map (λ e. e.version) x.entries)
    (map (λ e. e.seen) x.entries) in
    by (touched_of names x.request) table (sees_own x.entries (entries_are_rows names x fits).distinct) refl
  where
    by : (r : Touched) (table : Table) → AllByRecursion (Sees table) x.entries → touched_of names x.request ≡ r
        → map (λ e. e.row) x.entries ≡ numbers (rows_in r)
    by (touched.Rows rows) table sees t = noted_numbers names table x rows fits sees t
    by (touched.Refused why) table sees t =
        let is : decision_in x ≡ record { reply = Aborted why; effects = [] } =
        ap decision_in (made_of_table names table x fits sees) ∙ refused names table x.request why t in
        ap (map (λ e. e.row)) (no_effects x.entries (ap (λ (c : Decision). c.effects) is))

pub only_decided : (names : List (List ℕ)) (x : Executed) (reached : Touched) (decision : Decision)
    → touched_of names x.request ≡ reached → Fits names x
    → IsExact names x.request (rows_in reached) (map (λ e. e.seen) x.entries) decision
    → x ≡ executed_from x.request (rows_in reached) (map (λ e. e.version) x.entries) (map (λ e. e.seen) x.entries)
    decision
only_decided names x reached decision t fits right =
    let table : Table = table_from (map (λ e. e.row) x.entries) (map (λ e. e.version) x.entries)
    (map (λ e. e.seen) x.entries) in
    let sees : AllByRecursion (Sees table) x.entries = sees_own x.entries (entries_are_rows names x fits).distinct in
    by reached table sees t right
  where
    by : (r : Touched) (table : Table) → AllByRecursion (Sees table) x.entries → touched_of names x.request ≡ r
        → IsExact names x.request (rows_in r) (map (λ e. e.seen) x.entries) decision
        → x ≡ executed_from x.request (rows_in r) (map (λ e. e.version) x.entries) (map (λ e. e.seen) x.entries)
        decision
    by (touched.Rows rows) table sees t right =
        let numbered = noted_numbers names table x rows fits sees t in
        let shown : map (λ e. e.seen) x.entries ≡ map (λ r. (table r.0).value) rows
        = seen_values_of table x.entries sees ∙ ap (map (λ n. (table n).value)) numbered ∙ values_at table rows in
        let made : x ≡ executed_on names table x.request = made_of_table names table x fits sees in
        remade x rows numbered
        ∙ ap (executed_from x.request rows (map (λ e. e.version) x.entries) (map (λ e. e.seen) x.entries))
        (sym (right table shown ∙ ap decision_in (sym made)))
    by (touched.Refused why) table sees t right =
        let made : x ≡ executed_on names table x.request = made_of_table names table x fits sees in
        let is : decision_in x ≡ record { reply = Aborted why; effects = [] } = ap decision_in made
        ∙ refused names table x.request why t in
        let none : x.entries ≡ [] = no_effects x.entries (ap (λ (c : Decision). c.effects) is) in
        fits_refused names x why (map (λ e. e.version) x.entries) (map (λ e. e.seen) x.entries) decision is
        (right table (ap (map (λ e. e.seen)) none) ∙ ap decision_in (sym made))

-- ---- what is said of a decision

pub refused_done : (request : Request) (reached : Touched) (why : Abort) (values : List ℤ) (decision : Decision)
    → reached ≡ touched.Refused why
    → decision ≡ record { reply = Aborted why; effects = [] } → (names : List (List ℕ))
    → reached ≡ touched_of names request → IsExact names request (rows_in reached) values decision
refused_done request reached why values decision is d names t table shown = d
    ∙ sym (refused names table request why (sym t ∙ is))

pub rows_done : (request : Request) (reached : Touched) (rows : RowKinds) (values : List ℤ) (decision : Decision)
    → reached ≡ touched.Rows rows
    → decided_from request values ≡ Some decision → (names : List (List ℕ)) → reached ≡ touched_of names request
    → IsExact names request (rows_in reached) values decision
rows_done request reached rows values decision is d names t table shown =
    the_same decision (decision_in (executed_on names table request))
    (sym d ∙ ap (decided_from request) (shown ∙ ap (λ (r : Touched). map (λ r. (table r.0).value) (rows_in r)) is)
    ∙ decided names table request rows (sym t ∙ is))

-- it is done whatever the names
abbrev pub IsExactAnywhere : Request → Touched → List ℤ → Decision → Type 0
IsExactAnywhere request reached values decision = (names : List (List ℕ)) → reached ≡ touched_of names request
    → IsExact names request (rows_in reached) values decision

pub fits_done : (request : Request) (reached : Touched) (values : List ℤ) (decision : Decision) → length values
    ≡ length (rows_in reached) → IsExactAnywhere request reached values decision
    → (names : List (List ℕ)) (versions : List ℕ) → reached ≡ touched_of names request → length versions ≡ length values
    → Fits names (executed_from request (rows_in reached) versions values decision)
fits_done request reached values decision n done names versions t m =
    fits_decided names request reached versions values decision (sym t) m n (done names t)

pub only_done : (request : Request) (reached : Touched) (values : List ℤ) (decision : Decision)
    → IsExactAnywhere request reached values decision
    → (names : List (List ℕ)) (x : Executed) → reached ≡ touched_of names request → x.request ≡ request
    → map (λ e. e.seen) x.entries ≡ values → Fits names x
    → x ≡ executed_from request (rows_in reached) (map (λ e. e.version) x.entries) values decision
only_done request reached values decision done names x t same seen fits =
    only_decided names x reached decision (ap (touched_of names) same ∙ sym t) fits
    (subst (λ (q : Request). IsExact names q (rows_in reached) (map (λ e. e.seen) x.entries) decision) (sym same)
    (subst (λ (zs : List ℤ). IsExact names request (rows_in reached) zs decision) (sym seen) (done names t)))
    ∙ (λ i. executed_from (same i) (rows_in reached) (map (λ e. e.version) x.entries) (seen i) decision)

as_many : {c d : Decision} {n : ℕ} → c ≡ d → length c.effects ≡ n → length d.effects ≡ n
as_many same count = sym (ap (λ (d : Decision). length d.effects) same) ∙ count

as_many_within : (b : Bool) (effects : List Effect) (seen : List ℤ) → length effects ≡ length seen
    → length (cond b (record { reply = Done; effects = effects }) (abort_after OutOfRange seen)).effects ≡ length seen
as_many_within true effects seen count = count
as_many_within false effects seen count = length-map seen only_read

as_many_saved : (b : Bool) (d : Decision) (saving : ℤ) → length d.effects ≡ 1
    → length (cond b (abort_after Insufficient (saving ∷ [])) d).effects ≡ 1
as_many_saved true d saving count = refl
as_many_saved false d saving count = count

-- there is one effect for each value
pub one_each : (request : Request) (values : List ℤ) (decision : Decision) → decided_from request values ≡ Some decision
    → length decision.effects ≡ length values
one_each (Balance name) (saving ∷ checking ∷ []) d e = as_many (the_same _ d e) refl
one_each (DepositChecking name amount) (checking ∷ []) d e =
    as_many (the_same _ d e) (as_many_within (is_balance (checking +ℤ amount)) (written (checking +ℤ amount) ∷ [])
    (checking ∷ []) refl)
one_each (TransactSaving name amount) (saving ∷ []) d e =
    as_many (the_same _ d e)
    (as_many_saved (int_lt (saving +ℤ amount) (pos 0))
    (done_within (saving ∷ []) (saving +ℤ amount) (written (saving +ℤ amount) ∷ [])) saving
    (as_many_within (is_balance (saving +ℤ amount)) (written (saving +ℤ amount) ∷ []) (saving ∷ []) refl))
one_each (Amalgamate from to) (saving ∷ checking ∷ []) d e =
    let after : ℤ = pos 0 +ℤ (saving +ℤ checking) in
    as_many (the_same _ d e)
    (as_many_within (is_balance after) (written (pos 0) ∷ written after ∷ []) (saving ∷ checking ∷ []) refl)
one_each (Amalgamate from to) (saving ∷ checking ∷ receiver ∷ []) d e =
    let after : ℤ = receiver +ℤ (saving +ℤ checking) in
    as_many (the_same _ d e) (as_many_within (is_balance after) (written (pos 0) ∷ written (pos 0) ∷ written after ∷ [])
    (saving ∷ checking ∷ receiver ∷ []) refl)
one_each (WriteCheck name amount) (saving ∷ checking ∷ []) d e =
    let after : ℤ = checking -ℤ check_cost (record { saving = saving; checking = checking }) amount in
    as_many (the_same _ d e)
    (as_many_within (is_balance after) (only_read saving ∷ written after ∷ []) (saving ∷ checking ∷ []) refl)
one_each request values d e = absurd (nothing d e)

-- ---- a request that is refused

as_refused : (x : Executed) (why : Abort) → decision_in x ≡ refusal why
    → x ≡ record { request = x.request; reply = Aborted why; entries = [] }
as_refused x why is =
    ap₂ (λ (r : Reply) (es : List Entry). let y : Executed = record { request = x.request; reply = r; entries = es } in
    y) (ap (λ d. d.reply) is) (no_effects x.entries (ap (λ d. d.effects) is))

-- it fits with that answer and no entries
pub refused_fits : (names : List (List ℕ)) (request : Request) (why : Abort) → touched_of names request
    ≡ touched.Refused why
    → Fits names record { request = request; reply = Aborted why; entries = [] }
refused_fits names request why is =
    let table : Table = λ row. record { version = 0; value = pos 0 } in
    subst (Fits names) (as_refused (executed_on names table request) why (refused names table request why is))
    (always_fits names table request)
