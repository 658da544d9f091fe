-- Public: other crates cite these lemmas. The requests of all batches as one list: one occurs twice up to a batch
-- exactly where one occurs earlier there.
use Rattle.std.proofs.Common.{◌≡◌, ℕ, zero, suc, ◌+◌, ◌-◌, ◌<◌, ◌≤◌, Bool, true, false, cond, List, [], ◌∷◌, ◌++◌}
use Rattle.std.proofs.Common.{length, map, take, drop, Contains, Some, refl, sym, ap, subst, ◌∙◌, append_assoc}
use Rattle.std.proofs.Common.{inl, inr, arith}
use Rattle.std.specs.Prelude.{◌==◌, ◌&&◌, nat_le, slice_get}
use Rattle.std.specs.List.{flat_map, count_by, enumerate_from, list_all, sum}
use Rattle.std.specs.List.Sorted.{IsPermutation}
use Rattle.std.proofs.lemmas.Bool.{and_parts, and_from, eqb-true, eq-eqb, le-leb, leb-true, cases_lt}
use Rattle.std.proofs.lemmas.List.{append-nil, length-take-le, take_all, get_or-take}
use Rattle.std.proofs.lemmas.List.Concat.{flat_map-append}
use Rattle.std.proofs.lemmas.List.Sums.{sum_by-append}
use Rattle.std.proofs.lemmas.List.Sorted.{sum_by-IsPermutation}
use Rattle.std.proofs.lemmas.Option.{slice_get-get_or, slice_get_within, get_or_from_slice_get}
use Rattle.eve_grammar.specs.Trace.{Asked, Batch, Trace}
use Rattle.eve_grammar.specs.Frames.{batches_of}
use Rattle.eve_grammar.specs.Limits.{is_batch, HasLimits}
use Rattle.eve_grammar.specs.declared.limits.TheConstants.{MOST_REQUESTS}
use Rattle.eve_grammar.specs.Spelling.{located, batch_text, batches_start, batches_at}
use Rattle.eve_grammar.proofs.GroupOrder.{all_at}
use Rattle.eve_views.specs.Form.{SomePlace}
use Rattle.eve_history.specs.Order.{request_ids_at, IsAskedAgain, IsRepeated, HasDistinctRequests}
use Rattle.eve_grammar.specs.Trace.{RequestId, request_id}
use Rattle.eve_grammar.proofs.Lists.{take_one_more}
use Rattle.eve_grammar.proofs.Numbered.{numbered_get}
use Rattle.eve_history.specs.inner.Repeats.{arrival, arrivals_at, arrivals_of, is_by, OccursTwice, NoneOccursTwice}
use Rattle.eve_history.specs.inner.Repeats.{IsFirstTwice, IsFirstRepeat}
use Rattle.eve_history.specs.declared.repeats.Arrival.{Arrival}
use Rattle.eve_views.proofs.Lists.{count-cons, cut_at}
use Rattle.eve_views.proofs.FrameOffsets.{located_get}
use Rattle.eve_history.proofs.Counts.{one_there, two_found}
use Rattle.eve_history.proofs.OrderLaws.{batch_count}
use Rattle.eve_history.proofs.Places.{no_place, place_split, weaker_place}

-- ---- so many times

abbrev pub is_id : RequestId → RequestId → Bool
is_id id t = (t.0 == id.0) && (t.1 == id.1)

id_is : (id t : RequestId) → is_id id t ≡ true → t ≡ id
id_is id t h =
    let parts = and_parts (t.0 == id.0) (t.1 == id.1) h in
    let e : t.0 ≡ id.0 = eqb-true t.0 id.0 parts.0 in
    let f : t.1 ≡ id.1 = eqb-true t.1 id.1 parts.1 in
    λ k. (e k, f k)

is_id_itself : (t : RequestId) → is_id t t ≡ true
is_id_itself t = and_from (t.0 == t.0) (t.1 == t.1) (eq-eqb t.0 t.0 refl) (eq-eqb t.1 t.1 refl)

-- one that occurs twice occurs earlier at some place
twice_repeated : (id : RequestId) (ids : List RequestId) → 2 ≤ count_by (is_id id) ids → IsRepeated [] ids
twice_repeated id ids twice =
    let found = two_found (is_id id) ids twice in
    let i = found.first in
    let j = found.second in
    let x = found.former in
    let y = found.later in
    let apart = found.apart in
    let lt = slice_get_within ids j y found.later_there in
    let same : x ≡ y = id_is id x found.former_passes ∙ sym (id_is id y found.later_passes) in
    record {
      before = take j ids;
      item = y;
      rest = drop (suc j) ids;
      is = cut_at ids j y found.later_there;
      holds = (
        i,
        omega (arith, length-take-le j ids (omega arith)),
        get_or-take j ids i y apart ∙ get_or_from_slice_get ids i x y found.former_there ∙ same,
      );
    }

repeated_twice : (ids : List RequestId) → IsRepeated [] ids → (id : RequestId) × (2 ≤ count_by (is_id id) ids)
repeated_twice ids again =
    let t = again.item in
    let k = again.holds.0 in
    let is = again.holds.2 in
    let got : slice_get again.before k ≡ Some t =
    slice_get-get_or again.before k t again.holds.1 ∙ ap (λ (u : RequestId). Some u) is in
    let early = one_there (is_id t) again.before k t got (is_id_itself t) in
    let head : ◌≡◌ {A = ℕ} (cond (is_id t t) 1 0) 1 = ap {B = ℕ} (λ (b : Bool). cond b 1 0) (is_id_itself t) in
    let all : count_by (is_id t) ids ≡ count_by (is_id t) again.before + count_by (is_id t) (t ∷ again.rest) =
    ap (count_by (is_id t)) again.is
    ∙ sum_by-append (λ (u : RequestId). cond (is_id t u) 1 0) again.before (t ∷ again.rest) in
    (t, omega (arith, early, head, all, count-cons (is_id t) t again.rest))

-- ---- batches by their numbers

-- the batches have the numbers from this one on
abbrev Numbered : ℕ → List (ℕ × (ℕ × Batch)) → Type 0
Numbered n [] = Unit {0}
Numbered n (b ∷ bs) = (b.1.0 ≡ n) × Numbered (n + 1) bs

located_numbered : (text : ℕ × Batch → List ℕ) (at n : ℕ) (bs : List Batch) → Numbered n
    (located text at (enumerate_from n bs))
located_numbered text at n [] = tt
located_numbered text at n (b ∷ bs) = (refl, located_numbered text (at + length (text (n, b))) (n + 1) bs)

batches_numbered : (t : Trace) → Numbered 1 (batches_at t)
unfolding batches_at
batches_numbered t = located_numbered batch_text (batches_start t) 1 t.batches

module _ (id : RequestId) (n : ℕ) where
  late : (m : ℕ) (rs : List Asked) → nat_le m n ≡ true → count_by (is_by id n) (map (arrival m) rs)
      ≡ count_by (is_id id) (map request_id rs)
  late m [] e = refl
  late m (r ∷ rs) e =
      let head : ◌≡◌ {A = ℕ} (cond (is_by id n (arrival m r)) 1 0) (cond (is_id id (request_id r)) 1 0) =
      ap {B = ℕ} (λ (t : Bool). cond (t && is_id id (request_id r)) 1 0) e in
      omega (
        arith,
        head,
        late m rs e,
        count-cons (is_by id n) (arrival m r) (map (arrival m) rs),
        count-cons (is_id id) (request_id r) (map request_id rs),
      )

  early : (m : ℕ) (rs : List Asked) → nat_le m n ≡ false → count_by (is_by id n) (map (arrival m) rs) ≡ 0
  early m [] e = refl
  early m (r ∷ rs) e =
      let head : ◌≡◌ {A = ℕ} (cond (is_by id n (arrival m r)) 1 0) 0 =
      ap {B = ℕ} (λ (t : Bool). cond (t && is_id id (request_id r)) 1 0) e in
      omega (arith, head, early m rs e, count-cons (is_by id n) (arrival m r) (map (arrival m) rs))

  joined : (xs ys : List Arrival) → count_by (is_by id n) (xs ++ ys)
      ≡ count_by (is_by id n) xs + count_by (is_by id n) ys
  joined xs ys = sum_by-append (λ a. cond (is_by id n a) 1 0) xs ys

  joined_ids : (xs ys : List RequestId) → count_by (is_id id) (xs ++ ys)
      ≡ count_by (is_id id) xs + count_by (is_id id) ys
  joined_ids xs ys = sum_by-append (λ a. cond (is_id id a) 1 0) xs ys

  none_yet : (m : ℕ) (bs : List (ℕ × (ℕ × Batch))) → Numbered m bs → n < m
      → count_by (is_by id n) (flat_map arrivals_at bs) ≡ 0
  none_yet m [] numbers lt = refl
  none_yet m (b ∷ bs) numbers lt =
      let same : b.1.0 ≡ m = numbers.0 in
      omega (
        arith,
        joined (arrivals_at b) (flat_map arrivals_at bs),
        none_yet (m + 1) bs numbers.1 (omega arith),
        early b.1.0 b.1.1.requests (later b.1.0 (omega arith)),
      )
    where
      later : (k : ℕ) → n < k → nat_le k n ≡ false
      later k lt = by (nat_le k n) refl
        where
          by : (t : Bool) → nat_le k n ≡ t → t ≡ false
          by true e = absurd (let le = leb-true k n e in omega arith)
          by false e = refl

  -- what came up to batch n is what the batches up to it ask
  up_to : (m k : ℕ) (bs : List (ℕ × (ℕ × Batch))) → Numbered m bs → n + 1 ≡ m + k
      → count_by (is_by id n) (flat_map arrivals_at bs) ≡ count_by (is_id id) (flat_map request_ids_at (take k bs))
  up_to m zero bs numbers e = none_yet m bs numbers (omega arith)
  up_to m (suc k) [] numbers e = refl
  up_to m (suc k) (b ∷ bs) numbers e =
      let same : b.1.0 ≡ m = numbers.0 in
      omega (
        arith,
        joined (arrivals_at b) (flat_map arrivals_at bs),
        joined_ids (request_ids_at b) (flat_map request_ids_at (take k bs)),
        up_to (m + 1) k bs numbers.1 (omega arith),
        late b.1.0 b.1.1.requests (le-leb b.1.0 n (omega arith)),
      )

-- ---- a batch asks again

-- one of these batches asks again: then a request of them occurs earlier
asked_repeated : (bs : List (ℕ × (ℕ × Batch))) → SomePlace bs IsAskedAgain → IsRepeated [] (flat_map request_ids_at bs)
asked_repeated bs again =
    let own = again.holds in
    let prefix = flat_map request_ids_at again.before in
    let back = flat_map request_ids_at again.rest in
    record {
      before = prefix ++ own.before;
      item = own.item;
      rest = own.rest ++ back;
      is = ap (flat_map request_ids_at) again.is
          ∙ flat_map-append request_ids_at again.before (again.item ∷ again.rest)
          ∙ ap (λ (ts : List RequestId). prefix ++ (ts ++ back)) own.is
          ∙ ap (λ (ts : List RequestId). prefix ++ ts) (append_assoc own.before (own.item ∷ own.rest) back)
          ∙ sym (append_assoc prefix own.before (own.item ∷ (own.rest ++ back)));
      holds = own.holds;
    }

-- a request occurs earlier in these and one more batch: then in these, or the one more asks again
repeated_asked : (bs : List (ℕ × (ℕ × Batch))) (b : ℕ × (ℕ × Batch))
    → IsRepeated [] (flat_map request_ids_at (bs ++ b ∷ []))
    → (IsRepeated [] (flat_map request_ids_at bs) → ⊥) → IsAskedAgain bs b
repeated_asked bs b again none =
    let split : flat_map request_ids_at (bs ++ b ∷ []) ≡ flat_map request_ids_at bs ++ request_ids_at b =
    flat_map-append request_ids_at bs (b ∷ [])
    ∙ ap (λ (ts : List RequestId). flat_map request_ids_at bs ++ ts) (append-nil (request_ids_at b)) in
    elim (place_split (λ earlier t. Contains earlier t) (flat_map request_ids_at bs) (request_ids_at b)
    (subst (IsRepeated []) split again)) [
      | inl prefix ↦ absurd (none prefix)
      | inr here ↦ here
    ]

-- ---- of a trace

module _ (t : Trace) (xs : List Arrival) (moved : IsPermutation (arrivals_of t) xs) where
  counted : (id : RequestId) (n : ℕ) → count_by (is_by id n) xs
      ≡ count_by (is_id id) (flat_map request_ids_at (take n (batches_at t)))
  counted id n = sum_by-IsPermutation (λ a. cond (is_by id n a) 1 0) (arrivals_of t) xs moved
      ∙ up_to id n 1 n (batches_at t) (batches_numbered t) (omega arith)

  occurs_repeated : (n : ℕ) → OccursTwice xs n → IsRepeated [] (flat_map request_ids_at (take n (batches_at t)))
  occurs_repeated n twice = twice_repeated twice.0 (flat_map request_ids_at (take n (batches_at t)))
      (subst (λ (k : ℕ). 2 ≤ k) (counted twice.0 n) twice.1)

  repeated_occurs : (n : ℕ) → IsRepeated [] (flat_map request_ids_at (take n (batches_at t))) → OccursTwice xs n
  repeated_occurs n again =
      let twice = repeated_twice (flat_map request_ids_at (take n (batches_at t))) again in
      (twice.0, subst (λ (k : ℕ). 2 ≤ k) (sym (counted twice.0 n)) twice.1)

  pub none_twice_apart : NoneOccursTwice xs → HasDistinctRequests t
  none_twice_apart none = λ at stands.
      let bs = batches_at t in
      let all : take (length bs) bs ≡ bs = take_all (length bs) bs (omega arith) in
      none (length bs) (repeated_occurs (length bs)
      (subst (λ zs. IsRepeated [] (flat_map request_ids_at zs)) (sym all)
      (asked_repeated bs (weaker_place _ IsAskedAgain bs (λ b c h. h.1) stands))))

  pub first_twice_repeat : (n : ℕ) → IsFirstTwice xs n → IsFirstRepeat t n
  first_twice_repeat n is = record {
    from_one = some;
    there = within;
    again = λ b at. repeated_asked (take (n - 1) bs) b
        (subst (λ zs. IsRepeated [] (flat_map request_ids_at zs)) (grown b at) (occurs_repeated n is.twice)) none;
    first = λ asked. none (asked_repeated (take (n - 1) bs) asked);
  }
    where
      bs : List (ℕ × (ℕ × Batch))
      bs = batches_at t

      some : 1 ≤ n
      some = elim (cases_lt 0 n) [
        | inl less ↦ omega arith
        | inr ge ↦
            let zero_is : n ≡ 0 = omega arith in
            absurd (no_place _ (occurs_repeated 0 (subst (OccursTwice xs) zero_is is.twice)))
      ]

      none : IsRepeated [] (flat_map request_ids_at (take (n - 1) bs)) → ⊥
      none again = (let le = is.least (n - 1) (repeated_occurs (n - 1) again) in let one = some in omega arith)

      back : n - 1 + 1 ≡ n
      back = (let one = some in omega arith)

      grown : (b : ℕ × (ℕ × Batch)) → slice_get bs (n - 1) ≡ Some b → take n bs ≡ take (n - 1) bs ++ b ∷ []
      grown b at = ap (λ (k : ℕ). take k bs) (sym back) ∙ take_one_more bs (n - 1) b at

      within : n ≤ length t.batches
      within = elim (cases_lt (n - 1) (length bs)) [
        | inl less ↦ (let one = some in omega (arith, batch_count t, less))
        | inr ge ↦
            let one = some in
            let same : take n bs ≡ take (n - 1) bs = take_all n bs (omega arith) ∙ sym (take_all (n - 1) bs ge) in
            absurd (none (subst (λ zs. IsRepeated [] (flat_map request_ids_at zs)) same (occurs_repeated n is.twice)))
      ]

-- ---- how many

-- a batch has at most 256 requests
pub few_requests : (t : Trace) (i : ℕ) (b : ℕ × (ℕ × Batch)) → HasLimits t → slice_get (batches_at t) i ≡ Some b
    → length b.1.1.requests ≤ 256
unfolding batches_at
few_requests t i b limits at =
    let inside = located_get batch_text (batches_start t) (batches_of t) i b at in
    let right : is_batch b.1.1 ≡ true =
    all_at is_batch t.batches i b.1.1 limits.batches (numbered_get 1 t.batches i b.1 inside) in
    request_limit b.1.1 right
  where
    request_limit : (b : Batch) → is_batch b ≡ true → length b.requests ≤ 256
    request_limit b right =
        let one = and_parts (nat_le 1 (length b.sizes)) _ right in
        let two = and_parts (list_all (nat_le 1) b.sizes) _ one.1 in
        let three = and_parts (nat_le (sum b.sizes) MOST_REQUESTS) _ two.1 in
        let four = and_parts (length b.requests == sum b.sizes) _ three.1 in
        let few : sum b.sizes ≤ 256 = leb-true (sum b.sizes) MOST_REQUESTS three.0 in
        omega (arith, few, eqb-true (length b.requests) (sum b.sizes) four.0)

-- one more batch
pub arrivals_more : (t : Trace) (i : ℕ) (b : ℕ × (ℕ × Batch)) → slice_get (batches_at t) i ≡ Some b
    → flat_map arrivals_at (take (i + 1) (batches_at t))
    ≡ flat_map arrivals_at (take i (batches_at t)) ++ arrivals_at b
arrivals_more t i b at = ap (flat_map arrivals_at) (take_one_more (batches_at t) i b at)
    ∙ flat_map-append arrivals_at (take i (batches_at t)) (b ∷ [])
    ∙ ap (λ (xs : List Arrival). flat_map arrivals_at (take i (batches_at t)) ++ xs) (append-nil (arrivals_at b))

pub all_arrivals : (t : Trace) (i : ℕ) → length t.batches ≤ i → flat_map arrivals_at (take i (batches_at t))
    ≡ arrivals_of t
all_arrivals t i past = ap (flat_map arrivals_at) (take_all i (batches_at t) (omega (arith, batch_count t)))
