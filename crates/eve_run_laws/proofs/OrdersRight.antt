-- No fault of orders stands in the trace of a run: a workload's names and requests differ, and a cut keeps requests.
use Rattle.std.proofs.Common.{◌≡◌, ℕ, ◌+◌, ◌==◌, Bool, ◌&&◌, List, [], ◌∷◌, ◌++◌, map, length, AllPairs, Contains, refl}
use Rattle.std.proofs.Common.{sym, ap, subst, ◌∙◌, append_assoc, length-append, arith}
use Rattle.std.specs.Prelude.{◌≢◌, IsPermutation}
use Rattle.std.specs.Bool.{Decides}
use Rattle.std.specs.List.{flat_map, enumerate_from}
use Rattle.std.proofs.lemmas.Bool.Decides.{Decides-eqb, Decides-and, Decides-like, same_from_decides}
use Rattle.std.proofs.lemmas.List.{map-append, get_or_append_left, get_or_at}
use Rattle.std.proofs.lemmas.List.Concat.{flat_map-append}
use Rattle.std.proofs.lemmas.List.Sorted.{IsPermutation-refl, IsPermutation-map, IsPermutation-append}
use Rattle.std.proofs.lemmas.Map.Keys.{IsDistinct-IsPermutation}
use Rattle.std.proofs.lemmas.Map.Made.{AllPairs-from_IsDistinct, IsDistinct-from_AllPairs}
use Rattle.eve_grammar.specs.Trace.{Customer, Asked, Batch, Trace}
use Rattle.eve_grammar.specs.Spelling.{located, customer_text, batch_text, batches_start, customers_at, batches_at}
use Rattle.eve_views.specs.declared.fault.Fault.{Fault}
use Rattle.eve_views.specs.Form.{IsFaultOutside}
use Rattle.eve_history.specs.Order.{name_in, request_ids_at, StandsInOrders, HasDistinctNames, HasDistinctRequests}
use Rattle.eve_grammar.specs.Trace.{RequestId, request_id}
use Rattle.eve_history.proofs.OrderLaws.{none_twice}
use Rattle.eve_workload.specs.declared.mixer.Mixer.{Mixer}
use Rattle.eve_workload.specs.Mixers.{cut, batch_with}
use Rattle.eve_workload.specs.Workload.{Workload, IsWorkload, customer_names, requests_of}
use Rattle.eve_replica.specs.Run.{batches_cut}

-- no two are the same
abbrev AreApart : {A : Type 0} → List A → Type 0
AreApart xs = AllPairs (λ a b. a ≢ b) xs

none_before : {A : Type 0} (xs ys : List A) (x : A) → AreApart (xs ++ x ∷ ys) → ¬ Contains xs x
none_before xs ys x apart found =
    apart found.0 (length xs) x found.1 (omega (arith, length-append xs (x ∷ ys)))
    (get_or_append_left xs (x ∷ ys) x found.0 found.1 ∙ found.2 ∙ sym (get_or_at xs x ys x (length xs) refl))

-- ---- names

names_located : (text : Customer → List ℕ) (at : ℕ) (cs : List Customer)
    → map name_in (located text at cs) ≡ customer_names cs
names_located text at [] = refl
names_located text at (c ∷ cs) =
    ap (λ (names : List (List ℕ)). c.name ∷ names) (names_located text (at + length (text c)) cs)

no_name_again : (t : Trace) → AreApart (customer_names t.customers) → HasDistinctNames t
unfolding customers_at
no_name_again t apart at again =
    let before : List (List ℕ) = map name_in again.before in
    let after : List (List ℕ) = map name_in again.rest in
    let listed : customer_names t.customers ≡ before ++ name_in again.item ∷ after =
    sym (names_located customer_text 32 t.customers) ∙ ap (map name_in) again.is
    ∙ map-append name_in again.before (again.item ∷ again.rest) in
    none_before before after (name_in again.item) (subst AreApart listed apart) again.holds.1

-- ---- requests

-- those of batches, one after another
abbrev ids_in : List Batch → List RequestId
ids_in bs = flat_map (λ b. map request_id b.requests) bs

ids_located : (text : ℕ × Batch → List ℕ) (at n : ℕ) (bs : List Batch)
    → flat_map request_ids_at (located text at (enumerate_from n bs)) ≡ ids_in bs
ids_located text at n [] = refl
ids_located text at n (b ∷ bs) = ap (λ (ids : List RequestId). map request_id b.requests ++ ids)
    (ids_located text (at + length (text (n, b))) (n + 1) bs)

regrouped : {A : Type 0} (ws xs ys zs : List A) (x : A)
    → ws ++ ((xs ++ x ∷ ys) ++ zs) ≡ (ws ++ xs) ++ x ∷ (ys ++ zs)
regrouped {A = A} ws xs ys zs x =
    ap (λ (l : List A). ws ++ l) (append_assoc xs (x ∷ ys) zs) ∙ sym (append_assoc ws xs (x ∷ (ys ++ zs)))

no_request_again : (t : Trace) → AreApart (ids_in t.batches) → HasDistinctRequests t
unfolding batches_at
no_request_again t apart at again =
    let asked = again.holds.1 in
    let before : List RequestId = flat_map request_ids_at again.before in
    let after : List RequestId = flat_map request_ids_at again.rest in
    let listed : ids_in t.batches ≡ (before ++ asked.before) ++ asked.item ∷ (asked.rest ++ after) =
    sym (ids_located batch_text (batches_start t) 1 t.batches) ∙ ap (flat_map request_ids_at) again.is
    ∙ flat_map-append request_ids_at again.before (again.item ∷ again.rest)
    ∙ ap (λ (ids : List RequestId). before ++ (ids ++ after)) asked.is
    ∙ regrouped before asked.before asked.rest after asked.item in
    none_before (before ++ asked.before) (asked.rest ++ after) asked.item (subst AreApart listed apart) asked.holds

-- ---- in another order

abbrev is_same : RequestId → RequestId → Bool
is_same a b = (a.0 == b.0) && (a.1 == b.1)

Decides-is_same : (a b : RequestId) → Decides (is_same a b) (a ≡ b)
Decides-is_same a b =
    Decides-like (is_same a b) (λ p. pair p.0 p.1)
    (λ e. (ap (λ (id : RequestId). id.0) e, ap (λ (id : RequestId). id.1) e))
    (Decides-and (a.0 == b.0) (a.1 == b.1) (Decides-eqb a.0 b.0) (Decides-eqb a.1 b.1))
  where
    pair : a.0 ≡ b.0 → a.1 ≡ b.1 → a ≡ b
    pair p q = ap (λ (client : ℕ). (client, a.1)) p ∙ ap (λ (number : ℕ). (b.0, number)) q

apart_moved : (xs ys : List RequestId) → IsPermutation xs ys → AreApart xs → AreApart ys
apart_moved xs ys moved apart =
    AllPairs-from_IsDistinct Decides-is_same ys
    (IsDistinct-IsPermutation is_same
    (λ a b. same_from_decides (is_same a b) (is_same b a) (Decides-is_same a b)
    (Decides-like (is_same b a) sym sym (Decides-is_same b a)))
    xs ys moved (IsDistinct-from_AllPairs Decides-is_same xs apart))

-- the requests of the workload's batches, as they are cut
cut_ids : (names : List (List ℕ)) (mixer : Mixer)
    → ((requests : List Asked) → IsPermutation requests (batch_with (cut names mixer requests)).requests)
    → (batches : List (List Asked)) → IsPermutation (map request_id (requests_of batches))
    (ids_in (map (λ requests. batch_with (cut names mixer requests)) batches))
cut_ids names mixer cuts [] = IsPermutation-refl []
cut_ids names mixer cuts (rs ∷ batches) =
    let made : List Asked = (batch_with (cut names mixer rs)).requests in
    let more : List RequestId = ids_in (map (λ requests. batch_with (cut names mixer requests)) batches) in
    subst (λ (ids : List RequestId). IsPermutation ids (map request_id made ++ more))
    (sym (map-append request_id rs (requests_of batches)))
    (IsPermutation-append (map request_id rs) (map request_id made) (map request_id (requests_of batches)) more
    (IsPermutation-map request_id rs made (cuts rs)) (cut_ids names mixer cuts batches))

-- ---- no fault

pub no_order_fault : (w : Workload) (mixer : Mixer) (t : Trace) → IsWorkload w → t.customers ≡ w.customers
    → t.batches ≡ batches_cut w mixer
    → ((names : List (List ℕ)) → (m : Mixer) → (requests : List Asked)
    → IsPermutation requests (batch_with (cut names m requests)).requests)
    → (f : Fault) → ¬ IsFaultOutside StandsInOrders t f
no_order_fault w mixer t workload customers batches cuts =
    let names : List (List ℕ) = customer_names w.customers in
    none_twice t
    (no_name_again t (subst (λ (cs : List Customer). AreApart (customer_names cs)) (sym customers) workload.names))
    (no_request_again t (subst (λ (bs : List Batch). AreApart (ids_in bs)) (sym batches)
    (apart_moved (map request_id (requests_of w.batches)) (ids_in (batches_cut w mixer))
    (cut_ids names mixer (cuts names mixer) w.batches) workload.request_ids)))
