-- A bank as the values of its rows.
use Rattle.std.proofs.Common.{◌≡◌, ℕ, ℤ, ◌+◌, ◌≤◌, ◌==◌, ◌⊎◌, Bool, true, false, cond, List, [], ◌∷◌, Option, Some}
use Rattle.std.proofs.Common.{None, option_map, refl, sym, ap, ◌∙◌, inl, inr, arith, pos}
use Rattle.std.proofs.lemmas.Bool.{cases_Bool, eq-eqb, ne_eqb, cond-true, cond-false, false≢true}
use Rattle.std.specs.Cmp.Lexicographic.{nat_list_cmp_total}
use Rattle.std.specs.FinMap.{get, insert, get-empty, get-insert, same_map, IsAntisymmetric, nat_cmp-IsAntisymmetric}
use Rattle.std.specs.FinMap.{slice_cmp-IsAntisymmetric}
use Rattle.std.specs.List.{position_from}
use Rattle.std.specs.Prelude.{unwrap_or}
use Rattle.eve_accounts.specs.Names.{name_cmp, same_name, customer_named}
use Rattle.eve_accounts.specs.Rows.{saving_row, checking_row}
use Rattle.eve_accounts.proofs.NameLemmas.{same_name-true, same_name-itself}
use Rattle.eve_smallbank.specs.SmallBank.{Account}
use Rattle.eve_smallbank.specs.Access.{account_at, bank_from, bank_of, RowKinds}

-- an account with nothing in it
abbrev pub empty_account : Account
empty_account = record { saving = pos 0; checking = pos 0 }

-- the rows of a customer, none where there is none
abbrev pub rows_for : Option ℕ → (ℕ → RowKinds) → RowKinds
rows_for customer rows = unwrap_or (option_map rows customer) []

-- ---- names

names_exact : IsAntisymmetric name_cmp
names_exact = slice_cmp-IsAntisymmetric nat_cmp-IsAntisymmetric

-- what a bank has under a name
get-bank_from : (customer : ℕ) (names : List (List ℕ)) (values : ℕ → ℤ) (name : List ℕ)
    → get (bank_from customer names values) name ≡ option_map (account_at values)
    (position_from (same_name name) customer names)
get-bank_from customer [] values name = get-empty name_cmp name
get-bank_from customer (first ∷ names) values name =
    get-insert nat_list_cmp_total (bank_from (customer + 1) names values) first (account_at values customer) name
    ∙ by (same_name name first) (get-bank_from (customer + 1) names values name)
  where
    by : (b : Bool) → get (bank_from (customer + 1) names values) name
        ≡ option_map (account_at values) (position_from (same_name name) (customer + 1) names)
        → cond b (Some (account_at values customer)) (get (bank_from (customer + 1) names values) name)
        ≡ option_map (account_at values) (cond b (Some customer) (position_from (same_name name) (customer + 1) names))
    by true rest = refl
    by false rest = rest

pub get-bank_of : (names : List (List ℕ)) (values : ℕ → ℤ) (name : List ℕ) → get (bank_of names values) name
    ≡ option_map (account_at values) (customer_named names name)
unfolding bank_of customer_named
get-bank_of names values name = get-bank_from 0 names values name

-- ---- one account changed

-- values with another account for a customer
abbrev pub put_account : (ℕ → ℤ) → ℕ → Account → ℕ → ℤ
put_account values customer a row = cond (row == saving_row customer) a.saving
    (cond (row == checking_row customer) a.checking (values row))

same_account : (a b : Account) → a.saving ≡ b.saving → a.checking ≡ b.checking → a ≡ b
same_account a b e f = λ i. record { saving = e i; checking = f i }

pub put_account-own : (values : ℕ → ℤ) (customer : ℕ) (a : Account)
    → account_at (put_account values customer a) customer ≡ a
put_account-own values customer a =
    same_account (account_at (put_account values customer a) customer) a
    (cond-true (saving_row customer == saving_row customer) a.saving _
    (eq-eqb (saving_row customer) (saving_row customer) refl))
    (cond-false (checking_row customer == saving_row customer) a.saving _
    (ne_eqb (checking_row customer) (saving_row customer) (λ e. omega arith))
    ∙ cond-true (checking_row customer == checking_row customer) a.checking _
    (eq-eqb (checking_row customer) (checking_row customer) refl))

pub put_account-row : (values : ℕ → ℤ) (customer : ℕ) (a : Account) (row : ℕ) → ¬ (row ≡ saving_row customer)
    → ¬ (row ≡ checking_row customer) → put_account values customer a row ≡ values row
put_account-row values customer a row n m =
    cond-false (row == saving_row customer) a.saving _ (ne_eqb row (saving_row customer) n)
    ∙ cond-false (row == checking_row customer) a.checking (values row) (ne_eqb row (checking_row customer) m)

pub put_account-other : (values : ℕ → ℤ) (customer other : ℕ) (a : Account) → ¬ (other ≡ customer)
    → account_at (put_account values customer a) other ≡ account_at values other
put_account-other values customer other a apart =
    same_account (account_at (put_account values customer a) other) (account_at values other)
    (put_account-row values customer a (saving_row other) (λ e. apart (omega arith)) (λ e. omega arith))
    (put_account-row values customer a (checking_row other) (λ e. omega arith) (λ e. apart (omega arith)))

-- what a choice between two options gave
pub chosen : (b : Bool) (m n : ℕ) (o : Option ℕ) → cond b (Some m) o ≡ Some n → ((b ≡ true) × (m ≡ n))
    ⊎ ((b ≡ false) × (o ≡ Some n))
chosen true m n o e = inl (refl, same m n e)
  where
    same : (a b : ℕ) → Some a ≡ Some b → a ≡ b
    same a b h = cc
chosen false m n o e = inr (refl, e)

pub from_below : (c n : ℕ) (names : List (List ℕ)) (name : List ℕ) → position_from (same_name name) c names ≡ Some n
    → c ≤ n
from_below c n [] name e = absurd (none n e)
  where
    none : (n : ℕ) → ◌≡◌ {A = Option ℕ} None (Some n) → ⊥
    none n h = cc
from_below c n (first ∷ names) name e =
    elim (chosen (same_name name first) c n (position_from (same_name name) (c + 1) names) e) [
      | inl h ↦ at_most h.1
      | inr h ↦ lower (from_below (c + 1) n names name h.1)
    ]
  where
    at_most : {a b : ℕ} → a ≡ b → a ≤ b
    at_most h = omega arith

    lower : {a b : ℕ} → a + 1 ≤ b → a ≤ b
    lower h = omega arith

-- a number belongs to one name
one_name : (c n : ℕ) (names : List (List ℕ)) (a b : List ℕ) → position_from (same_name a) c names ≡ Some n
    → position_from (same_name b) c names
    ≡ Some n → a ≡ b
one_name c n [] a b h k = absurd (none n h)
  where
    none : (n : ℕ) → ◌≡◌ {A = Option ℕ} None (Some n) → ⊥
    none n e = cc
one_name c n (first ∷ names) a b h k =
    elim (chosen (same_name a first) c n (position_from (same_name a) (c + 1) names) h) [
      | inl p ↦ elim (chosen (same_name b first) c n (position_from (same_name b) (c + 1) names) k) [
        | inl q ↦ same_name-true a first p.0 ∙ sym (same_name-true b first q.0)
        | inr q ↦ absurd (above p.1 (from_below (c + 1) n names b q.1))
      ]
      | inr p ↦ elim (chosen (same_name b first) c n (position_from (same_name b) (c + 1) names) k) [
        | inl q ↦ absurd (above q.1 (from_below (c + 1) n names a p.1))
        | inr q ↦ one_name (c + 1) n names a b p.1 q.1
      ]
    ]
  where
    above : {m k : ℕ} → m ≡ k → m + 1 ≤ k → ⊥
    above e l = omega arith

-- to change an account in a bank is to change its rows
pub insert-bank_of : (names : List (List ℕ)) (values : ℕ → ℤ) (name : List ℕ) (customer : ℕ) (a : Account)
    → customer_named names name ≡ Some customer
    → insert (bank_of names values) name a ≡ bank_of names (put_account values customer a)
unfolding customer_named
insert-bank_of names values name customer a is =
    same_map nat_list_cmp_total names_exact (insert (bank_of names values) name a)
    (bank_of names (put_account values customer a)) (λ q.
    get-insert nat_list_cmp_total (bank_of names values) name a q
    ∙ ap (cond (same_name q name) (Some a)) (get-bank_of names values q)
    ∙ at q
    ∙ sym (get-bank_of names (put_account values customer a) q))
  where
    other : (q : List ℕ) (o : Option ℕ) → customer_named names q ≡ o → same_name q name ≡ false
        → option_map (account_at values) o ≡ option_map (account_at (put_account values customer a)) o
    other q None e n = refl
    other q (Some d) e n = ap Some (sym (put_account-other values customer d a (λ h.
        absurd (false≢true (sym n ∙ ap (λ r. same_name r name) (one_name 0 customer names q name (e ∙ ap Some h) is)
        ∙ same_name-itself name name refl)))))

    at : (q : List ℕ) → cond (same_name q name) (Some a) (option_map (account_at values) (customer_named names q))
        ≡ option_map (account_at (put_account values customer a)) (customer_named names q)
    at q = elim (cases_Bool (same_name q name)) [
      | inl e ↦ cond-true (same_name q name) (Some a) (option_map (account_at values) (customer_named names q)) e
          ∙ ap Some (sym (put_account-own values customer a))
          ∙ ap (option_map (account_at (put_account values customer a)))
          (sym (ap (customer_named names) (same_name-true q name e) ∙ is))
      | inr n ↦ cond-false (same_name q name) (Some a) (option_map (account_at values) (customer_named names q)) n
          ∙ other q (customer_named names q) refl n
    ]
