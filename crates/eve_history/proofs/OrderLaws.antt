-- Public: other crates cite these lemmas. Customers and batches, one after another: the first that is there again.
use Rattle.std.proofs.Common.{◌≡◌, ℕ, suc, ◌+◌, ◌-◌, ◌<◌, ◌≤◌, true, List, [], ◌∷◌, ◌++◌, map, length, take, drop}
use Rattle.std.proofs.Common.{slice_get, Contains, Some, None, refl, sym, ap, subst, ◌∙◌, inl, inr, arith}
use Rattle.std.specs.List.{flat_map}
use Rattle.std.proofs.lemmas.Bool.{and_parts, cases_lt}
use Rattle.std.proofs.lemmas.List.{append-nil, map-append, take_all, length-map, length-take-le}
use Rattle.std.proofs.lemmas.List.Concat.{flat_map-append}
use Rattle.std.proofs.lemmas.List.FromFn.{length-enumerate_from}
use Rattle.eve_accounts.specs.Names.{is_name, NameList}
use Rattle.eve_grammar.specs.Trace.{Customer, Batch, Trace}
use Rattle.eve_grammar.specs.Frames.{batches_of}
use Rattle.eve_grammar.specs.Spelling.{located, customer_text, batch_text, batches_start, customers_at, batches_at}
use Rattle.eve_grammar.specs.Limits.{is_customer, HasLimits}
use Rattle.eve_views.specs.declared.fault.Code.{Code}
use Rattle.eve_views.specs.declared.fault.Code.TheVariants as code
use Rattle.eve_views.specs.declared.fault.Fault.{Fault}
use Rattle.eve_views.specs.Code.{code_number}
use Rattle.eve_views.specs.Form.{IsUpTo, SomePlace, IsLeast, IsFaultOutside}
use Rattle.eve_history.specs.SectionHistory.{names_of}
use Rattle.eve_history.specs.Order.{name_in, request_ids_at, IsAskedAgain, StandsInOrders}
use Rattle.eve_grammar.specs.Trace.{RequestId}
use Rattle.eve_history.specs.Order.{IsRepeated, HasDistinctNames, HasDistinctRequests}
use Rattle.eve_grammar.proofs.GroupOrder.{all_at}
use Rattle.eve_grammar.proofs.Lists.{take_one_more}
use Rattle.eve_views.proofs.Lists.{cut_at}
use Rattle.eve_views.proofs.FrameOffsets.{length-located, located_get}
use Rattle.eve_history.proofs.RequestIds.{AreNewAndNoted}
use Rattle.eve_history.proofs.Places.{no_place, place_push, Rising, located_rising, first_place, from_low}
use Rattle.eve_history.proofs.Places.{located_within, weaker_place}

up_to : (f g : Fault) → f.offset ≤ g.offset → code_number f.code ≤ code_number g.code → IsUpTo f g
up_to f g le number = elim (cases_lt f.offset g.offset) [
  | inl lt ↦ inl lt
  | inr ge ↦ inr (omega arith, number)
]

-- ---- customers

-- an earlier customer has the name
abbrev pub IsNamedAgain : List (ℕ × Customer) → ℕ × Customer → Type 0
IsNamedAgain before c = Contains (map name_in before) (name_in c)

-- so many customers have come, and no name twice
pub record Naming (t : Trace) (i : ℕ) (names : NameList) : Type 0 where
  pub items : names.items ≡ map name_in (take i (customers_at t))
  pub limit : names.limit ≡ length t.customers
  pub apart : ¬ SomePlace (take i (customers_at t)) IsNamedAgain

pub naming_start : (t : Trace) (names : NameList) → names.items ≡ [] → names.limit ≡ length t.customers
    → Naming t 0 names
naming_start t names none limit = record { items = none; limit = limit; apart = no_place IsNamedAgain }

pub naming_more : (t : Trace) (i : ℕ) (names after : NameList) (c : ℕ × Customer) → Naming t i names
    → slice_get (customers_at t) i ≡ Some c → ¬ Contains names.items (name_in c)
    → after ≡ record names { items = names.items ++ name_in c ∷ [] } → Naming t (i + 1) after
naming_more t i names after c naming at new added =
    let more = take_one_more (customers_at t) i c at in
    record {
      items = ap (λ (n : NameList). n.items) added ∙ ap (λ (ns : List (List ℕ)). ns ++ name_in c ∷ []) naming.items
          ∙ sym (map-append name_in (take i (customers_at t)) (c ∷ [])) ∙ ap (map name_in) (sym more);
      limit = ap (λ (n : NameList). n.limit) added ∙ naming.limit;
      apart = λ again. elim (place_push IsNamedAgain (take i (customers_at t)) c
          (subst (λ xs. SomePlace xs IsNamedAgain) more again)) [
            | inl prefix ↦ naming.apart prefix
            | inr here ↦ new (subst (λ (ns : List (List ℕ)). Contains ns (name_in c)) (sym naming.items) here)
          ];
    }

customer_count : (t : Trace) → length (customers_at t) ≡ length t.customers
unfolding customers_at
customer_count t = length-located customer_text 32 t.customers

pub naming_room : (t : Trace) (i : ℕ) (names : NameList) → Naming t i names → i < length t.customers
    → length names.items < names.limit
naming_room t i names naming lt =
    let few : i ≤ length (customers_at t) = omega (arith, customer_count t) in
    let count : length names.items ≡ i = ap length naming.items ∙ length-map (take i (customers_at t)) name_in
    ∙ length-take-le i (customers_at t) few in
    omega (arith, naming.limit)

pub is_named : (t : Trace) (i : ℕ) (c : ℕ × Customer) → HasLimits t → slice_get (customers_at t) i ≡ Some c
    → is_name (name_in c) ≡ true
unfolding customers_at
is_named t i c limits at =
    (and_parts (is_name c.1.name) _
    (all_at is_customer t.customers i c.1 limits.customers (located_get customer_text 32 t.customers i c at))).0

names_are : (t : Trace) → map name_in (customers_at t) ≡ names_of t
unfolding customers_at
names_are t = by 32 t.customers
  where
    by : (at : ℕ) (xs : List Customer) → map name_in (located customer_text at xs) ≡ map (λ c. c.name) xs
    by at [] = refl
    by at (x ∷ xs) = ap (λ (ns : List (List ℕ)). x.name ∷ ns) (by (at + length (customer_text x)) xs)

all_customers : (t : Trace) (i : ℕ) → length t.customers ≤ i → take i (customers_at t) ≡ customers_at t
all_customers t i le = take_all i (customers_at t) (omega (arith, customer_count t))

pub naming_end : (t : Trace) (i : ℕ) (names : NameList) → Naming t i names → length t.customers ≤ i → names.items
    ≡ names_of t
naming_end t i names naming le = naming.items ∙ ap (map name_in) (all_customers t i le) ∙ names_are t

pub naming_apart : (t : Trace) (i : ℕ) (names : NameList) → Naming t i names → length t.customers ≤ i
    → HasDistinctNames t
naming_apart t i names naming le = λ at again.
    naming.apart (subst (λ xs. SomePlace xs IsNamedAgain) (sym (all_customers t i le))
    (weaker_place _ IsNamedAgain (customers_at t) (λ b c h. h.1) again))

customers_rise : (t : Trace) → Rising 32 (customers_at t)
unfolding customers_at
customers_rise t = located_rising customer_text 32 t.customers

batches_rise : (t : Trace) → Rising (batches_start t) (batches_at t)
unfolding batches_at
batches_rise t = located_rising batch_text (batches_start t) (batches_of t)

pub customers_within : (t : Trace) (at : ℕ) → StandsInOrders code.SameName t at → at ≤ batches_start t
unfolding customers_at
customers_within t at again = located_within IsNamedAgain customer_text 32 at t.customers again

abbrev pub fault : Code → ℕ → Fault
fault c at = record { code = c; offset = at; replica = None }

pub named_again : (t : Trace) (i : ℕ) (names : NameList) (c : ℕ × Customer) → Naming t i names
    → slice_get (customers_at t) i ≡ Some c → Contains names.items (name_in c)
    → IsLeast (IsFaultOutside StandsInOrders t) (fault code.SameName c.0)
named_again t i names c naming at again = record {
  is = record { stands = here; outside = refl };
  least = λ g other. by g.code g refl other.stands;
}
  where
    here : StandsInOrders code.SameName t c.0
    here = record {
      before = take i (customers_at t);
      item = c;
      rest = drop (suc i) (customers_at t);
      is = cut_at (customers_at t) i c at;
      holds = (refl, subst (λ (ns : List (List ℕ)). Contains ns (name_in c)) naming.items again);
    }

    by : (d : Code) (g : Fault) → g.code ≡ d → StandsInOrders d t g.offset → IsUpTo (fault code.SameName c.0) g
    by code.SameName g e stands =
        up_to (fault code.SameName c.0) g
        (first_place IsNamedAgain 32 g.offset (take i (customers_at t)) c (drop (suc i) (customers_at t))
        (subst (Rising 32) (cut_at (customers_at t) i c at) (customers_rise t)) naming.apart
        (subst (λ xs. SomePlace xs (λ b y. (y.0 ≡ g.offset) × IsNamedAgain b y)) (cut_at (customers_at t) i c at)
        stands))
        (let number : code_number g.code ≡ 10 = ap code_number e in omega arith)
    by code.SameRequest g e stands =
        let from = from_low IsAskedAgain (batches_start t) g.offset (batches_at t) (batches_rise t) stands in
        let to = customers_within t c.0 here in
        up_to (fault code.SameName c.0) g (omega arith)
        (let number : code_number g.code ≡ 11 = ap code_number e in omega arith)
    by d g e stands = absurd stands

-- ---- requests

-- the requests of so many batches have come, and none twice
pub record Asking (t : Trace) (i : ℕ) (noted : List RequestId) : Type 0 where
  pub items : noted ≡ flat_map request_ids_at (take i (batches_at t))
  pub apart : ¬ SomePlace (take i (batches_at t)) IsAskedAgain

pub asking_more : (t : Trace) (i : ℕ) (noted after : List RequestId) (b : ℕ × (ℕ × Batch)) → Asking t i noted
    → slice_get (batches_at t) i ≡ Some b → AreNewAndNoted noted (request_ids_at b) after
    → Asking t (i + 1) after
asking_more t i noted after b asking at more =
    let one = take_one_more (batches_at t) i b at in
    record {
      items = more.noted ∙ ap (λ (ts : List RequestId). ts ++ request_ids_at b) asking.items
          ∙ ap (λ (ts : List RequestId). flat_map request_ids_at (take i (batches_at t)) ++ ts)
          (sym (append-nil (request_ids_at b)))
          ∙ sym (flat_map-append request_ids_at (take i (batches_at t)) (b ∷ []))
          ∙ ap (flat_map request_ids_at) (sym one);
      apart = λ again. elim (place_push IsAskedAgain (take i (batches_at t)) b
          (subst (λ xs. SomePlace xs IsAskedAgain) one again)) [
            | inl prefix ↦ asking.apart prefix
            | inr here ↦ more.new (subst (λ (ts : List RequestId). IsRepeated ts (request_ids_at b))
                (sym asking.items) here)
          ];
    }

-- a batch, by its number from 1
pub batch_there : (t : List (ℕ × (ℕ × Batch))) (i : ℕ) (b : ℕ × (ℕ × Batch)) → slice_get t (i + 1 - 1) ≡ Some b
    → slice_get t i ≡ Some b
batch_there t i b e = let same : i + 1 - 1 ≡ i = omega arith in subst (λ (k : ℕ). slice_get t k ≡ Some b) same e

pub batch_count : (t : Trace) → length (batches_at t) ≡ length t.batches
unfolding batches_at
batch_count t = length-located batch_text (batches_start t) (batches_of t) ∙ length-enumerate_from 1 t.batches

pub asking_apart : (t : Trace) (i : ℕ) (noted : List RequestId) → Asking t i noted → length t.batches ≤ i
    → HasDistinctRequests t
asking_apart t i noted asking le = λ at again.
    let all : take i (batches_at t) ≡ batches_at t = take_all i (batches_at t) (omega (arith, batch_count t)) in
    asking.apart (subst (λ xs. SomePlace xs IsAskedAgain) (sym all)
    (weaker_place _ IsAskedAgain (batches_at t) (λ b c h. h.1) again))

pub asked_again : (t : Trace) (i : ℕ) (noted : List RequestId) (b : ℕ × (ℕ × Batch)) → HasDistinctNames t
    → Asking t i noted → slice_get (batches_at t) i ≡ Some b → IsRepeated noted (request_ids_at b)
    → IsLeast (IsFaultOutside StandsInOrders t) (fault code.SameRequest b.0)
asked_again t i noted b distinct asking at again = record {
  is = record {
    stands = record {
      before = take i (batches_at t);
      item = b;
      rest = drop (suc i) (batches_at t);
      is = cut_at (batches_at t) i b at;
      holds = (refl, subst (λ (ts : List RequestId). IsRepeated ts (request_ids_at b)) asking.items again);
    };
    outside = refl;
  };
  least = λ g other. by g.code g refl other.stands;
}
  where
    by : (d : Code) (g : Fault) → g.code ≡ d → StandsInOrders d t g.offset → IsUpTo (fault code.SameRequest b.0) g
    by code.SameRequest g e stands =
        up_to (fault code.SameRequest b.0) g
        (first_place IsAskedAgain (batches_start t) g.offset (take i (batches_at t)) b (drop (suc i) (batches_at t))
        (subst (Rising (batches_start t)) (cut_at (batches_at t) i b at) (batches_rise t)) asking.apart
        (subst (λ xs. SomePlace xs (λ b y. (y.0 ≡ g.offset) × IsAskedAgain b y)) (cut_at (batches_at t) i b at) stands))
        (let number : code_number g.code ≡ 11 = ap code_number e in omega arith)
    by code.SameName g e stands = absurd (distinct g.offset stands)
    by d g e stands = absurd stands

-- ---- neither

pub none_twice : (t : Trace) → HasDistinctNames t → HasDistinctRequests t → (f : Fault)
    → ¬ IsFaultOutside StandsInOrders t f
none_twice t names requests f is = by f.code is.stands
  where
    by : (c : Code) → ¬ StandsInOrders c t f.offset
    by code.SameName stands = names f.offset stands
    by code.SameRequest stands = requests f.offset stands
    by c stands = stands
