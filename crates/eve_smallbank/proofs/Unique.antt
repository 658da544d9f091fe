-- Public: other crates cite these lemmas. A record that fits is what its request makes of a table that it saw.
use Rattle.std.proofs.Common.{◌≡◌, ℕ, ℤ, ◌+◌, ◌*◌, ◌==◌, false, cond, List, [], ◌∷◌, map, length, ◌<◌, Option, Some}
use Rattle.std.proofs.Common.{None, refl, sym, subst, ap, ap₂, ◌∙◌, inl, inr, arith}
use Rattle.std.specs.Prelude.{⊤}
use Rattle.std.specs.List.{AllByRecursion, position_from}
use Rattle.std.proofs.lemmas.Bool.{cases_Bool, eq-eqb, ne_eqb, and_right, and_from, cond-true, cond-false, false≢true}
use Rattle.eve_accounts.specs.Names.{same_name, customer_named}
use Rattle.eve_accounts.specs.Rows.{saving_row, checking_row}
use Rattle.eve_smallbank.specs.declared.entry.Entry.{Entry}
use Rattle.eve_smallbank.specs.declared.entry.Kind.{Kind}
use Rattle.eve_smallbank.specs.declared.entry.Kind.TheVariants.{Read, Write}
use Rattle.eve_smallbank.specs.declared.request.Abort.TheVariants.{NoSuchName, BadAmount, Insufficient, OutOfRange}
use Rattle.eve_smallbank.specs.declared.request.Reply.{Reply}
use Rattle.eve_smallbank.specs.declared.request.Reply.TheVariants.{Done, Total, Aborted}
use Rattle.eve_smallbank.specs.SmallBank.{Bank, Request, Balance, DepositChecking, TransactSaving, Amalgamate}
use Rattle.eve_smallbank.specs.SmallBank.{WriteCheck}
use Rattle.eve_smallbank.specs.Access.{Executed, RowKinds, is_write, writes_row, bank_of}
use Rattle.eve_smallbank.specs.Access.{amalgamated_rows}
use Rattle.eve_smallbank.specs.Access.{rows_of, as_reads, noted_rows, values_after, Fits}
use Rattle.eve_smallbank.specs.Chain.{Table, Sees, values_of}
use Rattle.eve_smallbank.specs.Execution.{value_in, value_left, entry_on, executed_on}
use Rattle.eve_smallbank.proofs.Banks.{chosen, rows_for}
use Rattle.eve_smallbank.proofs.Chains.{seen_values}
use Rattle.eve_smallbank.proofs.FittingRecords.{value_saving, value_checking}

-- ---- rows of customers, each once

-- a bank of these names has in the row what the values have there
abbrev pub IsOwned : List (List ℕ) → ℕ → Type 0
IsOwned names row = (values : ℕ → ℤ) → value_in names (bank_of names values) row ≡ values row

abbrev pub AreDistinct : List ℕ → Type 0
AreDistinct [] = ⊤
AreDistinct (row ∷ rows) = AllByRecursion (λ other. ¬ (other ≡ row)) rows × AreDistinct rows

pub record AreRows (names : List (List ℕ)) (rows : List ℕ) : Type 0 where
  pub owned : AllByRecursion (IsOwned names) rows
  pub within : AllByRecursion (λ row. row < 2 * length names) rows
  pub distinct : AreDistinct rows

abbrev pub numbers : RowKinds → List ℕ
numbers rows = map (λ r. r.0) rows

no_rows : (names : List (List ℕ)) → AreRows names []
no_rows names = record { owned = tt; within = tt; distinct = tt }

pub numbers-as_reads : (rows : RowKinds) → numbers (as_reads rows) ≡ numbers rows
numbers-as_reads [] = refl
numbers-as_reads (r ∷ rows) = ap (λ (ns : List ℕ). r.0 ∷ ns) (numbers-as_reads rows)

-- what is noted are rows of the request, or none
noted_are_rows : (names : List (List ℕ)) (reply : Reply) (rows : RowKinds) → AreRows names (numbers rows)
    → AreRows names (numbers (noted_rows reply rows))
noted_are_rows names Done rows are = are
noted_are_rows names (Total sum) rows are = are
noted_are_rows names (Aborted NoSuchName) rows are = no_rows names
noted_are_rows names (Aborted BadAmount) rows are = no_rows names
noted_are_rows names (Aborted Insufficient) rows are = subst (AreRows names) (sym (numbers-as_reads rows)) are
noted_are_rows names (Aborted OutOfRange) rows are = subst (AreRows names) (sym (numbers-as_reads rows)) are

-- a customer's number is below the number of names
from_above : (c n : ℕ) (names : List (List ℕ)) (name : List ℕ) → position_from (same_name name) c names ≡ Some n
    → n < c + length names
from_above c n [] name e = absurd (none n e)
  where
    none : (n : ℕ) → ◌≡◌ {A = Option ℕ} None (Some n) → ⊥
    none n h = cc
from_above c n (first ∷ names) name e =
    elim (chosen (same_name name first) c n (position_from (same_name name) (c + 1) names) e) [
      | inl h ↦ (let same = h.1 in omega arith)
      | inr h ↦ (let rest = from_above (c + 1) n names name h.1 in omega arith)
    ]

even_odd : (c : ℕ) → ¬ (checking_row c ≡ saving_row c)
even_odd c e = omega arith

module _ (names : List (List ℕ)) where
  is_small : (c : ℕ) (name : List ℕ) → customer_named names name ≡ Some c → c < length names
  unfolding customer_named
  is_small c name e = (let low = from_above 0 c names name e in omega arith)

  saving_alone : (c : ℕ) (name : List ℕ) → customer_named names name ≡ Some c → AreRows names (saving_row c ∷ [])
  saving_alone c name e = record {
    owned = ((λ values. value_saving names values c name e), tt);
    within = ((let low = is_small c name e in omega arith), tt);
    distinct = (tt, tt);
  }

  checking_alone : (c : ℕ) (name : List ℕ) → customer_named names name ≡ Some c → AreRows names (checking_row c ∷ [])
  checking_alone c name e =
      record {
        owned = ((λ values. value_checking names values c name e), tt);
        within = ((let low = is_small c name e in omega arith), tt);
        distinct = (tt, tt);
      }

  both : (c : ℕ) (name : List ℕ) → customer_named names name ≡ Some c
      → AreRows names (saving_row c ∷ checking_row c ∷ [])
  both c name e = record {
    owned = ((λ values. value_saving names values c name e), ((λ values. value_checking names values c name e), tt));
    within = ((let low = is_small c name e in omega arith), ((let low = is_small c name e in omega arith), tt));
    distinct = ((even_odd c, tt), (tt, tt));
  }

  three : (c d : ℕ) (from to : List ℕ) → customer_named names from ≡ Some c → customer_named names to ≡ Some d
      → (c == d) ≡ false
      → AreRows names (saving_row c ∷ checking_row c ∷ checking_row d ∷ [])
  three c d from to e f apart = record {
    owned = (
      (λ values. value_saving names values c from e),
      ((λ values. value_checking names values c from e), ((λ values. value_checking names values d to f), tt)),
    );
    within = (
      (let low = is_small c from e in omega arith),
      ((let low = is_small c from e in omega arith), ((let low = is_small d to f in omega arith), tt)),
    );
    distinct = (
      (even_odd c, (odd c d, tt)),
      ((other c d (λ same. false≢true (sym apart ∙ eq-eqb c d same)), tt), (tt, tt)),
    );
  }
    where
      odd : (m n : ℕ) → ¬ (checking_row n ≡ saving_row m)
      odd m n e = omega arith

      other : (m n : ℕ) → ¬ (m ≡ n) → ¬ (checking_row n ≡ checking_row m)
      other m n apart e = apart (omega arith)

  amalgamated_are_rows : (c d : ℕ) (from to : List ℕ) → customer_named names from ≡ Some c → customer_named names to
      ≡ Some d
      → AreRows names (numbers (amalgamated_rows c d))
  amalgamated_are_rows c d from to e f =
      elim (cases_Bool (c == d)) [
        | inl same ↦ subst (λ (rows : RowKinds). AreRows names (numbers rows))
            (sym (cond-true (c == d) ((saving_row c, Write) ∷ (checking_row c, Write) ∷ []) _ same)) (both c from e)
        | inr apart ↦ subst (λ (rows : RowKinds). AreRows names (numbers rows))
            (sym (cond-false (c == d) ((saving_row c, Write) ∷ (checking_row c, Write) ∷ []) _ apart))
            (three c d from to e f apart)
      ]

  -- rows of a customer, if there is one
  of_customer : (name : List ℕ) (o : Option ℕ) (rows : ℕ → RowKinds) → customer_named names name ≡ o
      → ((c : ℕ) → customer_named names name ≡ Some c → AreRows names (numbers (rows c)))
      → AreRows names (numbers (rows_for o rows))
  of_customer name None rows e h = no_rows names
  of_customer name (Some c) rows e h = h c e

  pub request_rows : (request : Request) → AreRows names (numbers (rows_of names request))
  request_rows (Balance name) = of_customer name (customer_named names name) _ refl (λ c e. both c name e)
  request_rows (DepositChecking name amount) = of_customer name (customer_named names name) _ refl
      (λ c e. checking_alone c name e)
  request_rows (TransactSaving name amount) = of_customer name (customer_named names name) _ refl
      (λ c e. saving_alone c name e)
  request_rows (Amalgamate from to) =
      of_customer from (customer_named names from) _ refl
      (λ c e. of_customer to (customer_named names to) _ refl (λ d f. amalgamated_are_rows c d from to e f))
  request_rows (WriteCheck name amount) = of_customer name (customer_named names name) _ refl (λ c e. both c name e)

-- ---- what the last write of a row leaves

-- writes of other rows leave a row alone
left_by_others : (values : ℕ → ℤ) (row : ℕ) (es : List Entry)
    → AllByRecursion (λ other. ¬ (other ≡ row)) (map (λ e. e.row) es) → values_after values es row ≡ values row
left_by_others values row [] apart = refl
left_by_others values row (e ∷ es) apart =
    left_by_others (λ r. cond (writes_row r e) e.after (values r)) row es apart.1
    ∙ cond-false (writes_row row e) e.after (values row) (and_right _ (e.row == row) (ne_eqb e.row row apart.0))

-- each entry of distinct rows leaves its after value, where a read leaves what was there
entries_after : (values : ℕ → ℤ) (es : List Entry) → AreDistinct (map (λ e. e.row) es)
    → AllByRecursion (λ e. e.kind ≡ Write → values_after values es e.row ≡ e.after) es
entries_after values [] distinct = tt
entries_after values (e ∷ es) distinct = (
  (λ write. left_by_others (λ r. cond (writes_row r e) e.after (values r)) e.row es distinct.0 ∙ written e write),
  entries_after (λ r. cond (writes_row r e) e.after (values r)) es distinct.1,
)
  where
    written : (d : Entry) → d.kind ≡ Write → cond (writes_row d.row d) d.after (values d.row) ≡ d.after
    written d is = cond-true (writes_row d.row d) d.after (values d.row)
        (and_from (is_write d.kind) (d.row == d.row) (ap is_write is) (eq-eqb d.row d.row refl))

-- ---- the record

same_entry : (e f : Entry) → e.row ≡ f.row → e.kind ≡ f.kind → e.version ≡ f.version → e.seen ≡ f.seen
    → e.after ≡ f.after → e ≡ f
same_entry e f a b c d g = λ i. record { row = a i; kind = b i; version = c i; seen = d i; after = g i }

-- an entry of a customer's row is what a bank with its after value makes of the row
made_entry : (names : List (List ℕ)) (table : Table) (w : ℕ → ℤ) (e : Entry) → IsOwned names e.row
    → (e.kind ≡ Read → e.after ≡ e.seen)
    → Sees table e → (e.kind ≡ Write → w e.row ≡ e.after)
    → e ≡ entry_on names table (bank_of names w) (e.row, e.kind)
made_entry names table w e owned kept sees after = same_entry e (entry_on names table (bank_of names w) (e.row, e.kind))
    refl refl sees.version sees.value (sym (by_kind e.kind refl))
  where
    by_kind : (k : Kind) → e.kind ≡ k → value_left names table (bank_of names w) e.row k ≡ e.after
    by_kind Read is = sym sees.value ∙ sym (kept is)
    by_kind Write is = owned w ∙ after is

made_entries : (names : List (List ℕ)) (table : Table) (w : ℕ → ℤ) (es : List Entry)
    → AllByRecursion (IsOwned names) (map (λ e. e.row) es)
    → AllByRecursion (λ (e : Entry). e.kind ≡ Read → e.after ≡ e.seen) es
    → AllByRecursion (Sees table) es → AllByRecursion (λ e. e.kind ≡ Write → w e.row ≡ e.after) es
    → es ≡ map (entry_on names table (bank_of names w)) (map (λ e. (e.row, e.kind)) es)
made_entries names table w [] owned kept sees after = refl
made_entries names table w (e ∷ es) owned kept sees after =
    ap₂ (λ (d : Entry) (ds : List Entry). d ∷ ds) (made_entry names table w e owned.0 kept.0 sees.0 after.0)
    (made_entries names table w es owned.1 kept.1 sees.1 after.1)

pub numbers-pairs : (es : List Entry) → numbers (map (λ e. (e.row, e.kind)) es) ≡ map (λ e. e.row) es
numbers-pairs [] = refl
numbers-pairs (e ∷ es) = ap (λ (ns : List ℕ). e.row ∷ ns) (numbers-pairs es)

-- the entries of a record that fits are of distinct rows of customers
pub entries_are_rows : (names : List (List ℕ)) (x : Executed) → Fits names x
    → AreRows names (map (λ e. e.row) x.entries)
entries_are_rows names x fits =
    subst (AreRows names) (ap numbers (sym fits.rows) ∙ numbers-pairs x.entries)
    (noted_are_rows names x.reply (rows_of names x.request) (request_rows names x.request))

-- what an outcome is noted as
abbrev noted_as : List (List ℕ) → Table → Request → Bank × Reply → Executed
noted_as names table request outcome =
    record {
      request = request;
      reply = outcome.1;
      entries = map (entry_on names table outcome.0)
          (noted_rows outcome.1 (rows_of names request));
    }

pub made_of_table : (names : List (List ℕ)) (table : Table) (x : Executed) → Fits names x
    → AllByRecursion (Sees table) x.entries → x ≡ executed_on names table x.request
made_of_table names table x fits sees =
    (λ i. record { request = x.request; reply = x.reply; entries = same_entries i })
    ∙ ap (noted_as names table x.request) (sym (fits.effect (values_of table) (seen_values table x.entries sees)))
  where
    same_entries : x.entries ≡ map (entry_on names table (bank_of names (values_after (values_of table) x.entries)))
        (noted_rows x.reply (rows_of names x.request))
    same_entries =
        let rows = entries_are_rows names x fits in
        let w : ℕ → ℤ = values_after (values_of table) x.entries in
        made_entries names table w x.entries rows.owned fits.reads sees
        (entries_after (values_of table) x.entries rows.distinct)
        ∙ ap (map (entry_on names table (bank_of names w))) fits.rows
