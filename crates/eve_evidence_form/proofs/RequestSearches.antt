-- Requests one after another, and the first that has a client and a number.
use Rattle.std.proofs.Common.{◌≡◌, ◌≢◌, ℕ, zero, suc, ◌+◌, ◌-◌, ◌<◌, List, [], ◌∷◌, ◌++◌, length, take, drop, map}
use Rattle.std.proofs.Common.{slice_get}
use Rattle.std.proofs.Common.{Some, refl, sym, ap, subst, ◌∙◌, arith, append_assoc}
use Rattle.std.specs.Prelude.{Contains}
use Rattle.std.specs.List.{flat_map, enumerate_from}
use Rattle.std.proofs.Math.Seq.{take-add}
use Rattle.std.proofs.lemmas.List.{append-nil, length-map, map-append}
use Rattle.std.proofs.lemmas.List.Concat.{flat_map-append}
use Rattle.std.proofs.lemmas.List.FromFn.{length-enumerate_from}
use Rattle.std.proofs.lemmas.Option.{same_Some}
use Rattle.eve_grammar.specs.Trace.{Asked, Batch, RequestId, request_id}
use Rattle.eve_grammar.proofs.Lists.{all-append, take_one_more}
use Rattle.eve_views.specs.Form.{SomePlace}
use Rattle.eve_evidence.specs.declared.evidence.ToldRequest.{ToldRequest}
use Rattle.eve_evidence.proofs.Lists.{get_mapped}
use Rattle.eve_evidence_form.specs.Requests.{Listed, requests_listed, NoneAsked, IsFirstAsked, NoneAgain}
use Rattle.eve_evidence_form.proofs.Lists.{not_all_other}

-- ---- what an iterator has left

-- the next item, and what is left behind it
pub dropped : {A : Type 0} (xs : List A) (i : ℕ) (y : A) (ys : List A) → drop i xs ≡ y ∷ ys
    → (slice_get xs i ≡ Some y) × (drop (i + 1) xs ≡ ys)
dropped {A} xs i y ys e =
    let next : suc i ≡ i + 1 = omega arith in
    ((by xs i e).0, subst (λ (k : ℕ). drop k xs ≡ ys) next (by xs i e).1)
  where
    first : (x : A) (xs : List A) → ◌≡◌ {A = List A} (x ∷ xs) (y ∷ ys) → x ≡ y
    first x xs e = cc

    others : (x : A) (xs : List A) → ◌≡◌ {A = List A} (x ∷ xs) (y ∷ ys) → xs ≡ ys
    others x xs e = cc

    by : (xs : List A) (i : ℕ) → drop i xs ≡ y ∷ ys → (slice_get xs i ≡ Some y) × (drop (suc i) xs ≡ ys)
    by [] zero e = absurd cc
    by [] (suc i) e = absurd cc
    by (x ∷ xs) zero e = (ap Some (first x xs e), others x xs e)
    by (x ∷ xs) (suc i) e = by xs i e

-- ---- requests of a batch

numbered : {A : Type 0} (n : ℕ) (xs : List A) (i : ℕ) (x : A) → slice_get xs i ≡ Some x
    → slice_get (enumerate_from n xs) i ≡ Some (n + i, x)
numbered n [] i x e = absurd cc
numbered {A} n (y ∷ xs) zero x e =
    let here : n ≡ n + 0 = omega arith in
    λ i. Some (here i, same_Some y x e i)
numbered {A} n (y ∷ xs) (suc i) x e =
    let next : n + 1 + i ≡ n + suc i = omega arith in
    numbered (n + 1) xs i x e ∙ ap (λ (m : ℕ). Some (m, x)) next

-- the request of an index, as it is requests_listed
abbrev pub listed_as : ℕ × (ℕ × Batch) → ℕ → Asked → Listed
listed_as b i y = record { batch = b.1.0; at = b.0; index = i; asked = y }

pub listed_there : (b : ℕ × (ℕ × Batch)) (i : ℕ) (y : Asked) → slice_get b.1.1.requests i ≡ Some y
    → slice_get (requests_listed b) i ≡ Some (listed_as b i y)
listed_there b i y got =
    let same : 0 + i ≡ i = omega arith in
    get_mapped (λ (x : ℕ × Asked). listed_as b x.0 x.1) (enumerate_from 0 b.1.1.requests) i (i, y)
    (numbered 0 b.1.1.requests i y got ∙ ap (λ (m : ℕ). Some (m, y)) same)

pub length-listed : (b : ℕ × (ℕ × Batch)) → length (requests_listed b) ≡ length b.1.1.requests
length-listed b =
    length-map (enumerate_from 0 b.1.1.requests) (λ (x : ℕ × Asked). listed_as b x.0 x.1)
    ∙ length-enumerate_from 0 b.1.1.requests

-- ---- the first that has an id

-- it is the first also of what follows requests that don't have it
pub first_behind : (id : RequestId) (xs ys : List Listed) (r : ToldRequest) (at : ℕ) → NoneAsked id xs
    → IsFirstAsked id ys r at → IsFirstAsked id (xs ++ ys) r at
first_behind id xs ys r at none first = record {
  before = xs ++ first.before;
  item = first.item;
  rest = first.rest;
  is = ap (λ (zs : List Listed). xs ++ zs) first.is ∙ sym (append_assoc xs first.before (first.item ∷ first.rest));
  holds = (
    first.holds.0,
    first.holds.1,
    first.holds.2,
    all-append (λ (x : Listed). request_id x.asked ≢ id) xs first.before none first.holds.3,
  );
}

-- and where more follows it
pub first_longer : (id : RequestId) (xs ys : List Listed) (r : ToldRequest) (at : ℕ) → IsFirstAsked id xs r at
    → IsFirstAsked id (xs ++ ys) r at
first_longer id xs ys r at first = record {
  before = first.before;
  item = first.item;
  rest = first.rest ++ ys;
  is = ap (λ (zs : List Listed). zs ++ ys) first.is ∙ append_assoc first.before (first.item ∷ first.rest) ys;
  holds = first.holds;
}

-- ---- batch after batch

pub one_batch_more : (bs : List (ℕ × (ℕ × Batch))) (i : ℕ) (b : ℕ × (ℕ × Batch)) → slice_get bs i ≡ Some b
    → flat_map requests_listed (take (i + 1) bs) ≡ flat_map requests_listed (take i bs) ++ requests_listed b
one_batch_more bs i b got =
    ap (flat_map requests_listed) (take_one_more bs i b got) ∙ flat_map-append requests_listed (take i bs) (b ∷ [])
    ∙ ap (λ (ys : List Listed). flat_map requests_listed (take i bs) ++ ys) (append-nil (requests_listed b))

-- the first in the batch behind the first i, of n
pub first_in_batch : (id : RequestId) (bs : List (ℕ × (ℕ × Batch))) (i n : ℕ) (b : ℕ × (ℕ × Batch)) (r : ToldRequest)
    (at : ℕ) → i < n → slice_get bs i ≡ Some b → NoneAsked id (flat_map requests_listed (take i bs))
    → IsFirstAsked id (requests_listed b) r at → IsFirstAsked id (flat_map requests_listed (take n bs)) r at
first_in_batch id bs i n b r at lt got none first =
    let parts : i + 1 + (n - (i + 1)) ≡ n = omega arith in
    let split : flat_map requests_listed (take n bs)
    ≡ flat_map requests_listed (take (i + 1) bs) ++ flat_map requests_listed (take (n - (i + 1)) (drop (i + 1) bs)) =
    ap (λ (k : ℕ). flat_map requests_listed (take k bs)) (sym parts) ∙ ap (flat_map requests_listed)
    (take-add (i + 1) (n - (i + 1)) bs)
    ∙ flat_map-append requests_listed (take (i + 1) bs) (take (n - (i + 1)) (drop (i + 1) bs)) in
    subst (λ (xs : List Listed). IsFirstAsked id xs r at) (sym split)
    (first_longer id (flat_map requests_listed (take (i + 1) bs)) _ r at
    (subst (λ (xs : List Listed). IsFirstAsked id xs r at) (sym (one_batch_more bs i b got))
    (first_behind id (flat_map requests_listed (take i bs)) (requests_listed b) r at none first)))

-- ---- again

-- the requests have the ids that they are requests_listed with
ids_listed : (at seq n : ℕ) (own : List Asked)
    → map request_id own ≡ map (λ (x : Listed). request_id x.asked)
    (map (λ (x : ℕ × Asked). listed_as (at, (seq, record { sizes = []; requests = own })) x.0 x.1)
    (enumerate_from n own))
ids_listed at seq n [] = refl
ids_listed at seq n (a ∷ own) = ap (λ (ys : List RequestId). request_id a ∷ ys) (ids_listed at seq (n + 1) own)

ids_in : (b : ℕ × (ℕ × Batch)) → map request_id b.1.1.requests ≡ map (λ (x : Listed). request_id x.asked)
    (requests_listed b)
ids_in b = ids_listed b.0 b.1.0 0 b.1.1.requests

ids_before : (bs : List (ℕ × (ℕ × Batch))) → flat_map (λ d. map request_id d.1.1.requests) bs
    ≡ map (λ (x : Listed). request_id x.asked) (flat_map requests_listed bs)
ids_before [] = refl
ids_before (b ∷ bs) = (λ i. ids_in b i ++ ids_before bs i)
    ∙ sym (map-append (λ (x : Listed). request_id x.asked) (requests_listed b) (flat_map requests_listed bs))

-- a place among what a function makes of a list is one of the list
made_place : {A B : Type 0} (f : A → B) (P : List B → B → Type 0) (xs : List A) → SomePlace (map f xs) P
    → SomePlace xs (λ before x. P (map f before) (f x))
made_place {A} {B} f P xs place =
    let found = by xs place.before place.item place.rest place.is in
    record {
      before = found.0;
      item = found.1;
      rest = found.2;
      is = found.3;
      holds = subst (λ (b : List B). P b (f found.1)) found.4
          (subst (λ (y : B). P place.before y) found.5 place.holds);
    }
  where
    Found : List A → List B → B → Type 0
    Found xs before y =
        (b : List A) × (x : A) × (r : List A) × (xs ≡ b ++ x ∷ r) × (before ≡ map f b) × (y ≡ f x)

    first : (y z : B) (ys zs : List B) → ◌≡◌ {A = List B} (y ∷ ys) (z ∷ zs) → y ≡ z
    first y z ys zs e = cc

    others : (y z : B) (ys zs : List B) → ◌≡◌ {A = List B} (y ∷ ys) (z ∷ zs) → ys ≡ zs
    others y z ys zs e = cc

    by : (xs : List A) (before : List B) (y : B) (rest : List B) → map f xs ≡ before ++ y ∷ rest
        → (b : List A) × (x : A) × (r : List A) × (xs ≡ b ++ x ∷ r) × (before ≡ map f b) × (y ≡ f x)
    by [] [] y rest e = absurd cc
    by [] (z ∷ before) y rest e = absurd cc
    by (x ∷ xs) [] y rest e = ([], x, xs, refl, refl, sym (first (f x) y (map f xs) rest e))
    by (x ∷ xs) (z ∷ before) y rest e =
        let more = by xs before y rest (others (f x) z (map f xs) (before ++ y ∷ rest) e) in (
          x ∷ more.0,
          more.1,
          more.2,
          ap (λ (ys : List A). x ∷ ys) more.3,
          (λ i. sym (first (f x) z (map f xs) (before ++ y ∷ rest) e) i ∷ more.4 i),
          more.5,
        )

-- where one of a batch's requests stands earlier, not none does
pub not_none_again : (before : List (ℕ × (ℕ × Batch))) (b : ℕ × (ℕ × Batch))
    → SomePlace (map request_id b.1.1.requests)
    (λ earlier own. Contains (flat_map (λ d. map request_id d.1.1.requests) before ++ earlier) own)
    → NoneAgain (flat_map requests_listed before) (requests_listed b) → ⊥
not_none_again before b place none =
    let id : Listed → RequestId = λ x. request_id x.asked in
    let P : List RequestId → RequestId → Type 0 =
    λ earlier own. Contains (flat_map (λ (d : ℕ × (ℕ × Batch)). map request_id d.1.1.requests) before ++ earlier) own in
    let there = made_place id P (requests_listed b) (subst (λ (ys : List RequestId). SomePlace ys P) (ids_in b)
    place) in
    none (record {
      before = there.before;
      item = there.item;
      rest = there.rest;
      is = there.is;
      holds = λ apart. not_all_other id (flat_map requests_listed before ++ there.before) (request_id there.item.asked)
          (subst (λ (ys : List RequestId). Contains ys (request_id there.item.asked))
          (ap (λ (ys : List RequestId). ys ++ map id there.before) (ids_before before)
          ∙ sym (map-append id (flat_map requests_listed before) there.before)) there.holds) apart;
    })
