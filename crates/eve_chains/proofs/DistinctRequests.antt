-- No request takes effect twice: the requests of all batches are distinct, and each committed batch comes once.
use Rattle.std.proofs.Common.{◌≡◌, true, ℕ, zero, suc, ◌-◌, ◌≤◌, ◌<◌, List, [], ◌∷◌, ◌++◌, map, length, length-append}
use Rattle.std.proofs.Common.{get_or, drop, drop-cons, Some, refl, sym, subst, ap, ◌∙◌, inl, inr, arith, AllPairs}
use Rattle.std.specs.Prelude.{◌≢◌, IsTrue, AllPairs}
use Rattle.std.proofs.lemmas.Bool.{and_parts}
use Rattle.std.proofs.lemmas.List.{length-map}
use Rattle.std.proofs.Math.ListN.{get_or-map}
use Rattle.std.specs.List.{flat_map}
use Rattle.eve_grammar.specs.Trace.{Asked, Batch, Trace, no_request}
use Rattle.eve_grammar.specs.Certificate.{is_permutation, keeps_groups}
use Rattle.eve_history.specs.Section.{HowReached, ByAttempt, ByTransfer, Skipped, attempts_by}
use Rattle.eve_history.specs.Section.{Placed, no_batch, batch_at, request_count}
use Rattle.eve_history.specs.SectionHistory.{history, committed_at, IsRightSection}
use Rattle.eve_grammar.specs.Trace.{RequestId, request_id}
use Rattle.eve_smallbank.proofs.Members.{In, here, there, in_prefix}
use Rattle.eve_chains.specs.Committed.{attempts_of, request_ids_in, committed_request_ids, batch_request_ids}
use Rattle.eve_chains.proofs.Distinct.{Distinct, in_split, in_right, in_map, in_source, distinct_left}
use Rattle.eve_chains.proofs.Distinct.{distinct_right, distinct_apart, distinct_append, distinct_map}
use Rattle.eve_chains.proofs.Distinct.{distinct_permutation, below_permutation}
use Rattle.eve_chains.proofs.LinkedPaths.{IsLinked, AreLinked, linked_history, linked_number, none≢some}
use Rattle.eve_chains.proofs.LinkedPaths.{committed_number}
use Rattle.eve_chains.proofs.Soundness.{permutes}

-- ---- both forms of distinct

in_get_or : {A : Type 0} (xs : List A) (i : ℕ) (d : A) → i < length xs → In (get_or xs i d) xs
in_get_or [] i d h = absurd (omega arith)
in_get_or (x ∷ xs) zero d h = here
in_get_or (x ∷ xs) (suc i) d h = there (in_get_or xs i d (omega arith))

pub distinct_pairs : {A : Type 0} (xs : List A) → Distinct xs → AllPairs (λ a b. a ≢ b) xs
distinct_pairs [] d i j default l m = absurd (omega arith)
distinct_pairs (x ∷ xs) d i zero default l m = absurd (omega arith)
distinct_pairs (x ∷ xs) d zero (suc j) default l m =
    λ e. d.0 (subst (λ z. In z xs) (sym e) (in_get_or xs j default (omega arith)))
distinct_pairs (x ∷ xs) d (suc i) (suc j) default l m = distinct_pairs xs d.1 i j default (omega arith) (omega arith)

-- where a member stands, by its place
pub record Place {A : Type 0} (xs : List A) (x : A) : Type 0 where
  pub place : ℕ
  pub within : place < length xs
  pub is : get_or xs place x ≡ x

more : (m n : ℕ) → m < n → suc m < suc n
more m n h = omega arith

pub place_in : {A : Type 0} {x : A} (xs : List A) → In x xs → Place xs x
place_in [] i = elim i [ ]
place_in (x ∷ xs) here = record { place = 0; within = omega arith; is = refl }
place_in (y ∷ xs) (there i) = let p = place_in xs i in
    record { place = suc p.place; within = more p.place (length xs) p.within; is = p.is }

pairs_distinct : {A : Type 0} (xs : List A) → AllPairs (λ a b. a ≢ b) xs → Distinct xs
pairs_distinct [] pairs = tt
pairs_distinct (x ∷ xs) pairs = (
  λ i. let p = place_in xs i in pairs zero (suc p.place) x (omega arith) (more p.place (length xs) p.within) (sym p.is),
  pairs_distinct xs (λ i j d l m. pairs (suc i) (suc j) d (more i j l) (more j (length xs) m)),
)

-- ---- a batch in another order

-- the same element stands at one place alone
one_place : {A : Type 0} (xs : List A) (i j : ℕ) (d : A) → Distinct xs → i < length xs → j < length xs → get_or xs i d
    ≡ get_or xs j d → i ≡ j
one_place [] i j d apart l m e = absurd (omega arith)
one_place (x ∷ xs) zero zero d apart l m e = refl
one_place (x ∷ xs) zero (suc j) d apart l m e =
    absurd (apart.0 (subst (λ z. In z xs) (sym e) (in_get_or xs j d (omega arith))))
one_place (x ∷ xs) (suc i) zero d apart l m e =
    absurd (apart.0 (subst (λ z. In z xs) e (in_get_or xs i d (omega arith))))
one_place (x ∷ xs) (suc i) (suc j) d apart l m e = ap suc (one_place xs i j d apart.1 (omega arith) (omega arith) e)

-- the request ids of these requests, in the order of the indexes
abbrev ordered_request_ids : List Asked → List ℕ → List RequestId
ordered_request_ids rs order = map (λ i. request_id (get_or rs i no_request)) order

distinct_order : (rs : List Asked) (order : List ℕ) → Distinct (map request_id rs) → is_permutation (length rs) order
    ≡ true → Distinct (ordered_request_ids rs order)
distinct_order rs order d permutes =
    distinct_map (λ i. request_id (get_or rs i no_request)) order
    (λ i j k l e. one_place (map request_id rs) i j (request_id no_request) d (within i k) (within j l)
    (get_or-map request_id rs i no_request ∙ e ∙ sym (get_or-map request_id rs j no_request)))
    (distinct_permutation (length rs) order permutes)
  where
    within : (i : ℕ) → In i order → i < length (map request_id rs)
    within i k = subst (λ n. i < n) (sym (length-map rs request_id)) (below_permutation (length rs) i order permutes k)

in_order : (rs : List Asked) (order : List ℕ) (z : RequestId) → is_permutation (length rs) order ≡ true
    → In z (ordered_request_ids rs order) → In z (map request_id rs)
in_order rs order z permutes i =
    let s = in_source (λ i. request_id (get_or rs i no_request)) order i in
    subst (λ y. In y (map request_id rs)) (sym s.is)
    (in_map request_id rs (in_get_or rs s.item no_request
    (below_permutation (length rs) s.item order permutes s.there_is)))

-- ---- the committed batches

abbrev request_ids_from : Trace → ℕ → List RequestId
request_ids_from t n = flat_map (λ b. map request_id b.requests) (drop n t.batches)

-- the batch of the attempt that stands after these others
module _ (t : Trace) (before : List HowReached) (p : Placed) (linked : IsLinked t before p) where
  batch_is : batch_at t p.attempt.seq ≡ get_or t.batches (length before) no_batch
  batch_is = ap (λ n. get_or t.batches n no_batch) (down p.attempt.seq (length before) linked.number)
    where
      down : (m n : ℕ) → m ≡ suc n → m - 1 ≡ n
      down m n e = omega arith

  its_requests : List Asked
  its_requests = (batch_at t p.attempt.seq).requests

  from_here : request_ids_from t (length before) ≡ map request_id its_requests ++ request_ids_from t
      (suc (length before))
  unfolding its_requests
  from_here =
      ap (flat_map (λ b. map request_id b.requests))
      (drop-cons t.batches (length before) no_batch
      (known p.attempt.seq (length before) (length t.batches) linked.number linked.there))
      ∙ ap (λ (b : Batch). map request_id b.requests ++ request_ids_from t (suc (length before))) (sym batch_is)
    where
      known : (m n k : ℕ) → m ≡ suc n → m ≤ k → n < k
      known m n k e h = omega arith

  its_permutation : is_permutation (length its_requests) p.attempt.certificate ≡ true
  unfolding its_requests
  its_permutation = permutes t p.attempt linked.certificate

  own_distinct : Distinct (map request_id its_requests) → Distinct (request_ids_in t p.attempt)
  unfolding its_requests
  own_distinct d = distinct_order its_requests p.attempt.certificate d its_permutation

  own_member : (z : RequestId) → In z (request_ids_in t p.attempt) → In z (map request_id its_requests)
  unfolding its_requests
  own_member z i = in_order its_requests p.attempt.certificate z its_permutation i

one_longer : (before : List HowReached) (l : HowReached) → length (before ++ l ∷ []) ≡ suc (length before)
one_longer before l = simp length-append (omega arith)

-- from a later batch on
later_members : {A B : Type 0} {z : B} (f : A → List B) (xs : List A) (n : ℕ) → In z (flat_map f (drop (suc n) xs))
    → In z (flat_map f (drop n xs))
later_members f [] zero i = i
later_members f [] (suc n) i = i
later_members f (x ∷ xs) zero i = in_right (f x) (flat_map f xs) i
later_members f (x ∷ xs) (suc n) i = later_members f xs n i

later_distinct : {A B : Type 0} (f : A → List B) (xs : List A) (n : ℕ) → Distinct (flat_map f (drop n xs))
    → Distinct (flat_map f (drop (suc n) xs))
later_distinct f [] zero d = d
later_distinct f [] (suc n) d = d
later_distinct f (x ∷ xs) zero d = distinct_right (f x) (flat_map f xs) d
later_distinct f (x ∷ xs) (suc n) d = later_distinct f xs n d

abbrev ids_by : Trace → List HowReached → List RequestId
ids_by t ls = flat_map (request_ids_in t) (attempts_of (attempts_by ls))

committed_members : (t : Trace) (before ls : List HowReached) → AreLinked t before ls → (z : RequestId)
    → In z (ids_by t ls) → In z (request_ids_from t (length before))
committed_members t before [] linked z i = elim i [ ]
committed_members t before (ByAttempt p ∷ ls) linked z i =
    subst (In z) (sym (from_here t before p linked.0))
    (elim (in_split (request_ids_in t p.attempt) (ids_by t ls) i) [
      | inl j ↦ in_prefix (request_ids_from t (suc (length before)))
          (own_member t before p linked.0 z j)
      | inr j ↦ in_right (map request_id (its_requests t before p linked.0)) (request_ids_from t (suc (length before)))
          (subst (λ n. In z (request_ids_from t n)) (one_longer before (ByAttempt p))
          (committed_members t (before ++ ByAttempt p ∷ []) ls linked.1 z j))
    ])
committed_members t before (ByTransfer at x ∷ ls) linked z i =
    later_members (λ b. map request_id b.requests) t.batches (length before)
    (subst (λ n. In z (request_ids_from t n)) (one_longer before (ByTransfer at x))
    (committed_members t (before ++ ByTransfer at x ∷ []) ls linked.1 z i))
committed_members t before (Skipped ∷ ls) linked z i =
    later_members (λ b. map request_id b.requests) t.batches (length before)
    (subst (λ n. In z (request_ids_from t n)) (one_longer before Skipped)
    (committed_members t (before ++ Skipped ∷ []) ls linked.1 z i))

committed_distinct : (t : Trace) (before ls : List HowReached) → AreLinked t before ls
    → Distinct (request_ids_from t (length before)) → Distinct (ids_by t ls)
committed_distinct t before [] linked d = tt
committed_distinct t before (ByAttempt p ∷ ls) linked d =
    let own : List RequestId = map request_id (its_requests t before p linked.0) in
    let rest : List RequestId = request_ids_from t (suc (length before)) in
    let whole : Distinct (own ++ rest) = subst Distinct (from_here t before p linked.0) d in
    distinct_append (request_ids_in t p.attempt) (ids_by t ls)
    (own_distinct t before p linked.0 (distinct_left own rest whole))
    (committed_distinct t (before ++ ByAttempt p ∷ []) ls linked.1
    (subst (λ n. Distinct (request_ids_from t n)) (sym (one_longer before (ByAttempt p)))
    (distinct_right own rest whole)))
    (λ z i j. distinct_apart own rest whole (own_member t before p linked.0 z i)
    (subst (λ n. In z (request_ids_from t n)) (one_longer before (ByAttempt p))
    (committed_members t (before ++ ByAttempt p ∷ []) ls linked.1 z j)))
committed_distinct t before (ByTransfer at x ∷ ls) linked d =
    committed_distinct t (before ++ ByTransfer at x ∷ []) ls linked.1
    (subst (λ n. Distinct (request_ids_from t n)) (sym (one_longer before (ByTransfer at x)))
    (later_distinct (λ b. map request_id b.requests) t.batches (length before) d))
committed_distinct t before (Skipped ∷ ls) linked d =
    committed_distinct t (before ++ Skipped ∷ []) ls linked.1
    (subst (λ n. Distinct (request_ids_from t n)) (sym (one_longer before Skipped))
    (later_distinct (λ b. map request_id b.requests) t.batches (length before) d))

pub once : (t : Trace) (e : ℕ) → IsRightSection t e → AllPairs (λ a b. a ≢ b) (batch_request_ids t)
    → AllPairs (λ a b. a ≢ b) (committed_request_ids t e)
unfolding batch_request_ids committed_request_ids
once t e right distinct =
    distinct_pairs (ids_by t (history t e).ways_reached)
    (committed_distinct t [] (history t e).ways_reached (linked_history t e right)
    (pairs_distinct (flat_map (λ b. map request_id b.requests) t.batches) distinct))

-- ---- the order of a committed batch

pub certificate_keeps_groups : (t : Trace) (e n : ℕ) (p : Placed) → IsRightSection t e → committed_at t e n ≡ Some p
    → IsTrue (keeps_groups (batch_at t n).sizes (length (batch_at t n).requests) p.attempt.certificate)
certificate_keeps_groups t e zero p right at = none≢some p at
certificate_keeps_groups t e (suc n) p right at =
    let linked = linked_number t e n p right at in
    subst (λ m. IsTrue (keeps_groups (batch_at t m).sizes (length (batch_at t m).requests) p.attempt.certificate))
    (committed_number t e (suc n) p right at)
    (and_parts (keeps_groups (batch_at t p.attempt.seq).sizes (request_count t p.attempt) p.attempt.certificate) _
    linked.certificate).0
