-- Public: other crates cite these lemmas. Lists of names: who has which number, and what the words of a set say of
-- them.
use Rattle.std.proofs.Common.{◌≡◌, ◌≢◌, ℕ, zero, suc, ◌+◌, ◌<◌, ◌↔◌, Bool, true, false, cond, not, IsTrue, nat_lt}
use Rattle.std.proofs.Common.{nat_eq, List, [], ◌∷◌, ◌++◌, map, length, get_or, slice_get, Contains, AllPairs, is_some}
use Rattle.std.proofs.Common.{IfNone, Option, Some, None, position, refl, sym, ap, subst, ◌∙◌, inl, inr, arith}
use Rattle.std.proofs.Common.{add-zero, zero-add, length-append}
use Rattle.std.proofs.lemmas.Bool.{cond-true, cond-false, lt-ltb, le-ltb, cases_lt, cases_Bool, true≢false}
use Rattle.std.proofs.lemmas.Bool.{false_from_ne_true, or_cases, or_parts}
use Rattle.std.proofs.lemmas.List.{get_or_default, length-map, map-append}
use Rattle.std.proofs.lemmas.List.Elements.{All-push, Contains-append_right}
use Rattle.std.proofs.lemmas.List.Quantifiers.{all_pairs_push}
use Rattle.std.proofs.lemmas.Map.Text.{is_eq-slice_cmp}
use Rattle.std.proofs.lemmas.Option.{none-some, same_Some, slice_get_within, get_or_from_slice_get}
use Rattle.std.specs.Cmp.Lexicographic.{pointwise, same_text, other_text}
use Rattle.std.specs.List.{list_any, position_or_len, position_from}
use Rattle.std.specs.Prelude.{Result, Ok, Err}
use Rattle.eve_accounts.specs.declared.name_key.NameKey.{NameKey}
use Rattle.eve_accounts.specs.declared.names.NameFault.{NameFault}
use Rattle.eve_accounts.specs.declared.names.NameFault.TheVariants as fault
use Rattle.eve_accounts.specs.Names.{is_name, same_name, customer_named, NameList, IsNameList}
use Rattle.eve_accounts.specs.Names.{CanTake}

-- ---- names that are the same

pub same_name-true : (a b : List ℕ) → same_name a b ≡ true → a ≡ b
same_name-true a b h = same_text a b (sym h ∙ is_eq-slice_cmp a b)

pub same_name-false : (a b : List ℕ) → same_name a b ≡ false → a ≢ b
same_name-false a b h = other_text a b (sym h ∙ is_eq-slice_cmp a b)

pub same_name-itself : (a b : List ℕ) → a ≡ b → same_name a b ≡ true
same_name-itself a b e = elim (cases_Bool (same_name a b)) [ inl h ↦ h | inr h ↦ absurd (same_name-false a b h e) ]

same_name-other : (a b : List ℕ) → a ≢ b → same_name a b ≡ false
same_name-other a b apart = false_from_ne_true (same_name a b) (λ h. apart (same_name-true a b h))

-- ---- a customer's number

-- the number of a name is its place
place_from : (c n : ℕ) (names : List (List ℕ)) (name : List ℕ) → position_from (same_name name) c names ≡ Some n
    → (i : ℕ)
    × (n ≡ c + i) × (slice_get names i ≡ Some name)
place_from c n [] name e = absurd (none-some n e)
place_from c n (first ∷ names) name e = by (same_name name first) refl (place_from (c + 1) n names name)
  where
    by : (b : Bool) → same_name name first ≡ b
        → (position_from (same_name name) (c + 1) names ≡ Some n → (i : ℕ) × (n ≡ c + 1 + i)
        × (slice_get names i ≡ Some name))
        → (i : ℕ) × (n ≡ c + i) × (slice_get (first ∷ names) i ≡ Some name)
    by true h rest =
        let is : ◌≡◌ {A = Option ℕ} (Some c) (Some n) =
        sym (cond-true (same_name name first) (Some c) (position_from (same_name name) (c + 1) names) h) ∙ e in
        let same : c ≡ n = cc in
        (0, omega arith, ap Some (sym (same_name-true name first h)))
    by false h rest =
        let later = rest
        (sym (cond-false (same_name name first) (Some c) (position_from (same_name name) (c + 1) names) h)
        ∙ e) in
        let i : ℕ = later.0 in
        let is : n ≡ c + 1 + i = later.1 in
        (suc i, omega arith, later.2)

pub place_of_customer : (names : List (List ℕ)) (name : List ℕ) (n : ℕ) → customer_named names name ≡ Some n
    → slice_get names n ≡ Some name
unfolding customer_named
place_of_customer names name n e =
    let p = place_from 0 n names name e in
    let same : p.0 ≡ n = omega arith in
    subst (λ (i : ℕ). slice_get names i ≡ Some name) same p.2

-- where the names are distinct, the place of a name is its number
number_from : (c i : ℕ) (names : List (List ℕ)) (name : List ℕ) → AllPairs (λ a b. a ≢ b) names → slice_get names i
    ≡ Some name → position_from (same_name name) c names ≡ Some (c + i)
number_from c i [] name distinct e = absurd (no_name name e)
  where
    no_name : (name : List ℕ) → ◌≡◌ {A = Option (List ℕ)} None (Some name) → ⊥
    no_name name h = cc
number_from c zero (first ∷ names) name distinct e =
    cond-true (same_name name first) (Some c) (position_from (same_name name) (c + 1) names)
    (same_name-itself name first (sym (same_Some first name e)))
    ∙ ap Some (sym (add-zero c))
number_from c (suc i) (first ∷ names) name distinct e =
    cond-false (same_name name first) (Some c) (position_from (same_name name) (c + 1) names)
    (same_name-other name first (later (slice_get_within names i name e)))
    ∙ number_from (c + 1) i names name (λ j k d l m. distinct (suc j) (suc k) d (omega arith) (omega arith)) e
    ∙ ap Some (moved c i)
  where
    moved : (c i : ℕ) → c + 1 + i ≡ c + suc i
    moved c i = omega arith

    later : i < length names → name ≢ first
    later within same = distinct 0 (suc i) name (omega arith) (omega arith)
        (sym same ∙ sym (get_or_from_slice_get names i name name e))

pub customer_at_place : (names : List (List ℕ)) (name : List ℕ) (n : ℕ) → AllPairs (λ a b. a ≢ b) names
    → slice_get names n ≡ Some name → customer_named names name ≡ Some n
unfolding customer_named
customer_at_place names name n distinct e = number_from 0 n names name distinct e ∙ ap Some (zero-add n)

-- what an answer that is the customer's number says of the places
pub number_is_place : (names : List (List ℕ)) (name : List ℕ) (result : Option ℕ) → AllPairs (λ a b. a ≢ b) names
    → result ≡ customer_named names name
    → (n : ℕ) → (result ≡ Some n) ↔ (slice_get names n ≡ Some name)
number_is_place names name result distinct is n =
    (λ e. place_of_customer names name n (sym is ∙ e), λ e. is ∙ customer_at_place names name n distinct e)

-- ---- one name more

-- a list that takes a name stays a list of customers
pub IsNameList-taken : (names : NameList) (name : List ℕ) → IsNameList names → CanTake names name
    → IsNameList (record names { items = names.items ++ name ∷ [] })
IsNameList-taken names name is can = record {
  named = All-push (λ n. IsTrue (is_name n)) names.items name is.named can.named;
  distinct = all_pairs_push (λ a b. a ≢ b) names.items name is.distinct
      (λ k d l e. can.new (k, l, get_or_default names.items k name d l ∙ e));
  within = omega (arith, can.room, length-append names.items (name ∷ []));
  small = is.small;
}

-- ---- names after references, as a set keeps them

-- the name that a key refers to
abbrev pub text : NameKey → List ℕ
text key = key.bytes.now

-- whether a key is the name
abbrev pub is_key : List ℕ → NameKey → Bool
is_key name key = pointwise nat_eq name (text key)

-- the set's index of a name is the customer's number
number_by_index : (c : ℕ) (keys : List NameKey) (name : List ℕ)
    → position_from (same_name name) c (map text keys)
    ≡ cond (nat_lt (position_or_len (is_key name) keys) (length keys))
    (Some (c + position_or_len (is_key name) keys)) None
number_by_index c [] name = refl
number_by_index c (key ∷ keys) name =
    ap (λ b. cond b (Some c) (position_from (same_name name) (c + 1) (map text keys))) (is_eq-slice_cmp name (text key))
    ∙ by (is_key name key) (position_or_len (is_key name) keys) (length keys)
    (position_from (same_name name) (c + 1) (map text keys)) (number_by_index (c + 1) keys name)
  where
    moved : (c p : ℕ) → c + 1 + p ≡ c + (1 + p)
    moved c p = omega arith

    by : (b : Bool) (p n : ℕ) (rest : Option ℕ) → rest ≡ cond (nat_lt p n) (Some (c + 1 + p)) None
        → cond b (Some c) rest ≡ cond (nat_lt (cond (not b) (1 + p) 0) (suc n)) (Some (c + cond (not b) (1 + p) 0)) None
    by true p n rest e = ap Some (sym (add-zero c))
        ∙ sym (cond-true (nat_lt 0 (suc n)) (Some (c + 0)) None (lt-ltb 0 (suc n) (omega arith)))
    by false p n rest e = e ∙ elim (cases_lt p n) [
      | inl lt ↦ cond-true (nat_lt p n) (Some (c + 1 + p)) None (lt-ltb p n lt) ∙ ap Some (moved c p)
          ∙ sym (cond-true (nat_lt (1 + p) (suc n)) (Some (c + (1 + p))) None (lt-ltb (1 + p) (suc n) (omega arith)))
      | inr ge ↦ cond-false (nat_lt p n) (Some (c + 1 + p)) None (le-ltb p n ge)
          ∙ sym (cond-false (nat_lt (1 + p) (suc n)) (Some (c + (1 + p))) None (le-ltb (1 + p) (suc n) (omega arith)))
    ]

pub customer_named-keys : (keys : List NameKey) (name : List ℕ) → customer_named (map text keys) name
    ≡ position (is_key name) keys
unfolding customer_named
customer_named-keys keys name = number_by_index 0 keys name
    ∙ ap (λ n. cond (nat_lt (position_or_len (is_key name) keys) (length keys)) (Some n) None)
    (zero-add (position_or_len (is_key name) keys))

-- what the set's test for a name tells of the names
pub Contains-keys : (keys : List NameKey) (name : List ℕ) → list_any (is_key name) keys ≡ true
    → Contains (map text keys) name
Contains-keys [] name h = absurd (true≢false (sym h))
Contains-keys (key ∷ keys) name h = elim (or_cases (is_key name key) (list_any (is_key name) keys) h) [
  | inl here ↦ (0, omega arith, sym (same_text name (text key) (sym here)))
  | inr there ↦ Contains-append_right (text key ∷ []) (map text keys) name (Contains-keys keys name there)
]

pub absent_from_keys : (keys : List NameKey) (name : List ℕ) → list_any (is_key name) keys ≡ false
    → ¬ Contains (map text keys) name
absent_from_keys [] name h at = absurd (omega (arith, at.1))
absent_from_keys (key ∷ keys) name h at =
    let parts = or_parts (is_key name key) (list_any (is_key name) keys) h in
    by parts.0 (absent_from_keys keys name parts.1) at.0 at.1 at.2
  where
    by : is_key name key ≡ false → ¬ Contains (map text keys) name → (k : ℕ) → k < length (text key ∷ map text keys)
        → get_or (text key ∷ map text keys) k name ≡ name → ⊥
    by other absent zero l e = other_text name (text key) (sym other) (sym e)
    by other absent (suc k) l e = absent (k, omega arith, e)

-- where the set has no index for the name, it is none of the names
pub absent_from_index : (keys : List NameKey) (name : List ℕ) (index : Option ℕ) → is_some index
    ≡ list_any (is_key name) keys → IfNone index (¬ Contains (map text keys) name)
absent_from_index keys name None e = absent_from_keys keys name (sym e)
absent_from_index keys name (Some n) e = tt

-- what the set's answers tell of a list with its names
pub CanTake-from_set : (keys : List NameKey) (limit : ℕ) (name : List ℕ)
    → IsNameList (record { items = map text keys; limit = limit }) → is_name name ≡ true → list_any (is_key name) keys
    ≡ false
    → length keys ≢ limit → CanTake (record { items = map text keys; limit = limit }) name
CanTake-from_set keys limit name is named absent room = record {
  named = named;
  new = absent_from_keys keys name absent;
  room = omega (arith, is.within, length-map keys text, room);
}

pub IsNameList-inserted : (keys new : List NameKey) (key : NameKey) (limit : ℕ)
    → IsNameList (record { items = map text keys; limit = limit })
    → CanTake (record { items = map text keys; limit = limit }) (text key)
    → list_any (is_key (text key)) keys ≡ false → new ≡ cond (list_any (is_key (text key)) keys) keys (keys ++ key ∷ [])
    → IsNameList (record { items = map text new; limit = limit })
IsNameList-inserted keys new key limit is can absent inserted =
    let last : new ≡ keys ++ key ∷ [] = inserted ∙ cond-false (list_any (is_key (text key)) keys) keys
    (keys ++ key ∷ []) absent in
    let P : List (List ℕ) → Type 0 = λ items. IsNameList (record { items = items; limit = limit }) in
    subst P (sym (ap (map text) last ∙ map-append text keys (key ∷ [])))
    (IsNameList-taken (record { items = map text keys; limit = limit }) (text key) is can)

-- ---- why a name is not added

-- the fault that is due where the name is not added
abbrev pub IsDue : NameList → List ℕ → NameFault → Type 0
IsDue names name fault.BadName = is_name name ≡ false
IsDue names name fault.SameName = IsTrue (is_name name) × Contains names.items name
IsDue names name fault.Full =
    IsTrue (is_name name) × (¬ Contains names.items name) × (length names.items ≡ names.limit)
IsDue names name fault.Memory = CanTake names name

-- the answer is each fault exactly where that is due, but for the memory
pub record TellsFaults (names : NameList) (name : List ℕ) (result : Result ℕ NameFault) : Type 0 where
  pub bad_name : (result ≡ Err fault.BadName) ↔ (is_name name ≡ false)
  pub same_name : (result ≡ Err fault.SameName) ↔ (IsTrue (is_name name) × Contains names.items name)
  pub full : (result ≡ Err fault.Full)
      ↔ (IsTrue (is_name name) × (¬ Contains names.items name) × (length names.items ≡ names.limit))
  pub memory : result ≡ Err fault.Memory → CanTake names name

pub tells_fault : (names : NameList) (name : List ℕ) (why : NameFault) → IsDue names name why
    → TellsFaults names name (Err why)
tells_fault names name fault.BadName due = record {
  bad_name = (λ e. due, λ h. refl);
  same_name = (λ e. absurd (cc), λ h. absurd (true≢false (sym h.0 ∙ due)));
  full = (λ e. absurd (cc), λ h. absurd (true≢false (sym h.0 ∙ due)));
  memory = λ e. absurd (cc);
}
tells_fault names name fault.SameName due = record {
  bad_name = (λ e. absurd (cc), λ h. absurd (true≢false (sym due.0 ∙ h)));
  same_name = (λ e. due, λ h. refl);
  full = (λ e. absurd (cc), λ h. absurd (h.1 due.1));
  memory = λ e. absurd (cc);
}
tells_fault names name fault.Full due = record {
  bad_name = (λ e. absurd (cc), λ h. absurd (true≢false (sym due.0 ∙ h)));
  same_name = (λ e. absurd (cc), λ h. absurd (due.1 h.1));
  full = (λ e. due, λ h. refl);
  memory = λ e. absurd (cc);
}
tells_fault names name fault.Memory due = record {
  bad_name = (λ e. absurd (cc), λ h. absurd (true≢false (sym due.named ∙ h)));
  same_name = (λ e. absurd (cc), λ h. absurd (due.new h.1));
  full = (λ e. absurd (cc), λ h. absurd (omega (arith, due.room, h.2)));
  memory = λ e. due;
}

-- a number is told only of a name that may be added
pub tells_number : (names : NameList) (name : List ℕ) (n : ℕ) → CanTake names name → TellsFaults names name (Ok n)
tells_number names name n can = record {
  bad_name = (λ e. absurd (cc), λ h. absurd (true≢false (sym can.named ∙ h)));
  same_name = (λ e. absurd (cc), λ h. absurd (can.new h.1));
  full = (λ e. absurd (cc), λ h. absurd (omega (arith, can.room, h.2)));
  memory = λ e. absurd (cc);
}
