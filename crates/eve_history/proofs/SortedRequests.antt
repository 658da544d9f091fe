-- Requests in order of number, client and batch: the first batch up to which one occurs twice is that of a neighbour.
use Rattle.std.proofs.Common.{◌≡◌, ℕ, ◌+◌, ◌-◌, ◌<◌, ◌≤◌, Bool, true, false, cond, is_lt, ltb, nat_cmp, List}
use Rattle.std.proofs.Common.{length, get_or, Option, Some, None, IfSome, refl, sym, ap, subst, ◌∙◌, arith, inl, inr}
use Rattle.std.specs.Prelude.{◌==◌, ◌&&◌, nat_le, slice_get, IfNone}
use Rattle.std.specs.declared.cmp.Ordering.TheVariants.{Less, Equal, Greater}
use Rattle.std.specs.Ordering.{ordering_then}
use Rattle.std.proofs.lemmas.Bool.{ltb-false, leb-true, le-leb, eqb-true, eqb-false, eq-eqb, and_parts}
use Rattle.std.proofs.lemmas.Bool.{and_from, cases_lt, false≢true}
use Rattle.std.proofs.lemmas.Option.{slice_get-get_or, slice_get_within}
use Rattle.eve_grammar.specs.Trace.{RequestId}
use Rattle.eve_views.specs.Least.{lower, IsBelow}
use Rattle.eve_views.specs.Order.{AreInOrder}
use Rattle.eve_history.specs.inner.Repeats.{is_same, IsNoLaterArrival, is_by, OccursTwice}
use Rattle.eve_history.specs.inner.Repeats.{NoneOccursTwice}
use Rattle.eve_history.specs.inner.Repeats.{IsFirstTwice}
use Rattle.eve_history.specs.declared.repeats.Arrival.{Arrival}
use Rattle.eve_views.proofs.Lists.{all_after}
use Rattle.eve_views.proofs.LeastNumbers.{lower_lowers, lower_at, lower_stands}
use Rattle.eve_history.proofs.Counts.{two_there, two_found}

-- ---- sorted

abbrev not_less : Arrival → Arrival → Bool
not_less a b = is_lt (ordering_then (nat_cmp b.number a.number)
    (ordering_then (nat_cmp b.client a.client) (nat_cmp b.batch a.batch)))

-- each and the next, in the sort's order
not_after : (a b : Arrival) → not_less a b ≡ false → IsNoLaterArrival a b
not_after a b h = by (ltb b.number a.number) (b.number == a.number) (ltb b.client a.client) (b.client == a.client)
    (ltb b.batch a.batch) (b.batch == a.batch) refl refl refl refl refl refl h
  where
    by : (p q r s u w : Bool) → ltb b.number a.number ≡ p → (b.number == a.number) ≡ q → ltb b.client a.client ≡ r
        → (b.client == a.client) ≡ s → ltb b.batch a.batch ≡ u → (b.batch == a.batch) ≡ w
        → is_lt (ordering_then (cond p Less (cond q Equal Greater)) (ordering_then (cond r Less (cond s Equal Greater))
        (cond u Less (cond w Equal Greater)))) ≡ false → IsNoLaterArrival a b
    by true q r s u w e1 e2 e3 e4 e5 e6 h = absurd (false≢true (sym h))
    by false true true s u w e1 e2 e3 e4 e5 e6 h = absurd (false≢true (sym h))
    by false true false true true w e1 e2 e3 e4 e5 e6 h = absurd (false≢true (sym h))
    by false true false true false w e1 e2 e3 e4 e5 e6 h = record {
      number = ltb-false b.number a.number e1;
      client = λ le. ltb-false b.client a.client e3;
      batch = λ le more. ltb-false b.batch a.batch e5;
    }
    by false true false false u w e1 e2 e3 e4 e5 e6 h =
        let up = ltb-false b.client a.client e3 in
        let other = eqb-false b.client a.client e4 in
        record {
          number = ltb-false b.number a.number e1;
          client = λ le. up;
          batch = λ le more. absurd (other (omega arith));
        }
    by false false r s u w e1 e2 e3 e4 e5 e6 h =
        let up = ltb-false b.number a.number e1 in
        let other = eqb-false b.number a.number e2 in
        record {
          number = up;
          client = λ le. absurd (other (omega arith));
          batch = λ le more. absurd (other (omega arith));
        }

not_after_trans : (a b c : Arrival) → IsNoLaterArrival a b → IsNoLaterArrival b c → IsNoLaterArrival a c
not_after_trans a b c ab bc = record {
  number = omega (arith, ab.number, bc.number);
  client = λ le. (
      let s = ab.number in
      let u = bc.number in
      let x = ab.client (omega arith) in
      let y = bc.client (omega arith) in
      omega arith);
  batch = λ le more. (
      let s = ab.number in
      let u = bc.number in
      let x = ab.client (omega arith) in
      let y = bc.client (omega arith) in
      let p = ab.batch (omega arith) (omega arith) in
      let q = bc.batch (omega arith) (omega arith) in
      omega arith);
}

pub in_order : (xs : List Arrival) → ((k : ℕ) (d : Arrival) → k + 1 < length xs
    → not_less (get_or xs k d) (get_or xs (k + 1) d) ≡ false) → AreInOrder IsNoLaterArrival xs
in_order xs sorted = all_after IsNoLaterArrival not_after_trans xs
    (λ k d lt. not_after (get_or xs k d) (get_or xs (k + 1) d) (sorted k d lt))

-- ---- the same request

pub record Same (a b : Arrival) : Type 0 where
  pub number : a.number ≡ b.number
  pub client : a.client ≡ b.client

same_is : (a b : Arrival) → is_same a b ≡ true → Same a b
same_is a b h =
    let parts = and_parts (a.number == b.number) (a.client == b.client) h in
    record { number = eqb-true a.number b.number parts.0; client = eqb-true a.client b.client parts.1 }

is_same_from : (a b : Arrival) → Same a b → is_same a b ≡ true
is_same_from a b h = and_from (a.number == b.number) (a.client == b.client) (eq-eqb a.number b.number h.number)
    (eq-eqb a.client b.client h.client)

pub record By (id : RequestId) (n : ℕ) (a : Arrival) : Type 0 where
  pub batch : a.batch ≤ n
  pub client : a.client ≡ id.0
  pub number : a.number ≡ id.1

by_is : (id : RequestId) (n : ℕ) (a : Arrival) → is_by id n a ≡ true → By id n a
by_is id n a h =
    let parts = and_parts (nat_le a.batch n) ((a.client == id.0) && (a.number == id.1)) h in
    let inner = and_parts (a.client == id.0) (a.number == id.1) parts.1 in
    record {
      batch = leb-true a.batch n parts.0;
      client = eqb-true a.client id.0 inner.0;
      number = eqb-true a.number id.1 inner.1;
    }

is_by_from : (id : RequestId) (n : ℕ) (a : Arrival) → By id n a → is_by id n a ≡ true
is_by_from id n a h = and_from (nat_le a.batch n) ((a.client == id.0) && (a.number == id.1)) (le-leb a.batch n h.batch)
    (and_from (a.client == id.0) (a.number == id.1) (eq-eqb a.client id.0 h.client) (eq-eqb a.number id.1 h.number))

-- ---- neighbours

-- two neighbours are one request, and the later is of this batch
pub record Neighbours (xs : List Arrival) (n : ℕ) : Type 0 where
  pub place : ℕ
  pub former : Arrival
  pub later : Arrival
  pub former_there : slice_get xs place ≡ Some former
  pub later_there : slice_get xs (place + 1) ≡ Some later
  pub same : is_same former later ≡ true
  pub batch : later.batch ≡ n

module _ (xs : List Arrival) (order : AreInOrder IsNoLaterArrival xs) where
  pub neighbours_twice : (n : ℕ) → Neighbours xs n → OccursTwice xs n
  neighbours_twice n h =
      let a = h.former in
      let b = h.later in
      let s = same_is a b h.same in
      let le = order h.place (h.place + 1) a b (omega arith) h.former_there h.later_there in
      let e : a.number ≡ b.number = s.number in
      let f : a.client ≡ b.client = s.client in
      let up = le.batch (omega arith) (omega arith) in
      let at : b.batch ≡ n = h.batch in
      let id : RequestId = (b.client, b.number) in (
        id,
        two_there (is_by id n) xs h.place (h.place + 1) a b (omega arith) h.former_there h.later_there
            (is_by_from id n a (record { batch = omega arith; client = f; number = e }))
            (is_by_from id n b (record { batch = omega arith; client = refl; number = refl })),
      )

  -- where a request occurs twice up to a batch, two neighbours are one, and the later is of that batch or before
  pub twice_neighbours : (n : ℕ) → OccursTwice xs n → (m : ℕ) × (m ≤ n) × Neighbours xs m
  twice_neighbours n twice =
      let id = twice.0 in
      let found = two_found (is_by id n) xs twice.1 in
      let y = found.later in
      let j = found.second in
      let apart = found.apart in
      let lt = slice_get_within xs j y found.later_there in
      let back : j - 1 + 1 ≡ j = omega arith in
      let c = get_or xs (j - 1) y in
      let got : slice_get xs (j - 1) ≡ Some c = slice_get-get_or xs (j - 1) y (omega arith) in
      let mine = by_is id n y found.later_passes in (
        y.batch,
        mine.batch,
        record {
          place = j - 1;
          former = c;
          later = y;
          former_there = got;
          later_there = ap (slice_get xs) back ∙ found.later_there;
          same = is_same_from c y (same id n found.first j found.former y apart c found.former_there got
              found.later_there (by_is id n found.former found.former_passes) mine);
          batch = refl;
        },
      )
    where
      same : (id : RequestId) (n i j : ℕ) (x y : Arrival) → i < j → (c : Arrival) → slice_get xs i ≡ Some x
          → slice_get xs (j - 1) ≡ Some c → slice_get xs j ≡ Some y → By id n x → By id n y → Same c y
      same id n i j x y less c e f g its mine = elim (cases_lt i (j - 1)) [
        | inl between ↦
            let low = order i (j - 1) x c between e f in
            let high = order (j - 1) j c y (omega arith) f g in
            let s = low.number in
            let u = high.number in
            let v : x.number ≡ id.1 = its.number in
            let w : y.number ≡ id.1 = mine.number in
            let p : x.client ≡ id.0 = its.client in
            let q : y.client ≡ id.0 = mine.client in
            let r = low.client (omega arith) in
            let t = high.client (omega arith) in
            record { number = omega arith; client = omega arith }
        | inr ge ↦
            let here : i ≡ j - 1 = omega arith in
            let both : Some x ≡ Some c = sym e ∙ ap (slice_get xs) here ∙ f in
            let equal : c ≡ x = cc in
            record {
              number = ap (λ (z : Arrival). z.number) equal ∙ its.number ∙ sym mine.number;
              client = ap (λ (z : Arrival). z.client) equal ∙ its.client ∙ sym mine.client;
            }
      ]

-- ---- the earliest

-- of the neighbours up to this place that are one request, the earliest batch of a later one
pub record Seen (xs : List Arrival) (i : ℕ) (first : Option ℕ) : Type 0 where
  pub found : IfSome first (Neighbours xs)
  pub below : (n : ℕ) (h : Neighbours xs n) → h.place + 1 < i → IsBelow first n

module _ (xs : List Arrival) (i : ℕ) (first : Option ℕ) (a b : Arrival) (some : 1 ≤ i)
    (former : slice_get xs (i - 1) ≡ Some a) (later : slice_get xs i ≡ Some b) (seen : Seen xs i first) where
  back : i - 1 + 1 ≡ i
  back = omega arith

  -- the pair at this place is this one
  is_here : (n : ℕ) (h : Neighbours xs n) → h.place ≡ i - 1 → (is_same a b ≡ true) × (n ≡ b.batch)
  is_here n h at =
      let one : Some h.former ≡ Some a = sym h.former_there ∙ ap (slice_get xs) at ∙ former in
      let other : Some h.later ≡ Some b =
      sym h.later_there ∙ ap (λ (k : ℕ). slice_get xs (k + 1)) at ∙ ap (slice_get xs) back ∙ later in
      let x : h.former ≡ a = cc in
      let y : h.later ≡ b = cc in
      (sym (λ k. is_same (x k) (y k)) ∙ h.same, sym h.batch ∙ ap (λ (z : Arrival). z.batch) y)

  pub seen_same : is_same a b ≡ true → Seen xs (i + 1) (lower first b.batch)
  seen_same same = record {
    found = lower_stands (Neighbours xs) first b.batch seen.found (record {
      place = i - 1;
      former = a;
      later = b;
      former_there = former;
      later_there = ap (slice_get xs) back ∙ later;
      same = same;
      batch = refl;
    });
    below = λ n h lt. elim (cases_lt (h.place + 1) i) [
      | inl less ↦ lower_lowers first b.batch n (seen.below n h less)
      | inr ge ↦
          let here = is_here n h (omega arith) in
          subst (IsBelow (lower first b.batch)) (sym here.1) (lower_at first b.batch)
    ];
  }

  pub seen_other : is_same a b ≡ false → Seen xs (i + 1) first
  seen_other other = record {
    found = seen.found;
    below = λ n h lt. elim (cases_lt (h.place + 1) i) [
      | inl less ↦ seen.below n h less
      | inr ge ↦ absurd (false≢true (sym other ∙ (is_here n h (omega arith)).0))
    ];
  }

module _ (xs : List Arrival) (order : AreInOrder IsNoLaterArrival xs) (i : ℕ) (past : length xs ≤ i) where
  all_seen : (first : Option ℕ) → Seen xs i first → (n : ℕ) → OccursTwice xs n → (m : ℕ) × (m ≤ n) × IsBelow first m
  all_seen first seen n twice =
      let found = twice_neighbours xs order n twice in
      let h = found.2 in
      let lt = slice_get_within xs (h.place + 1) h.later h.later_there in
      (found.0, found.1, seen.below found.0 h (omega arith))

  pub seen_none : (first : Option ℕ) → Seen xs i first → IfNone first (NoneOccursTwice xs)
  seen_none None seen = λ n twice. (all_seen None seen n twice).2
  seen_none (Some first) seen = tt

  pub seen_first : (first : Option ℕ) → Seen xs i first → IfSome first (IsFirstTwice xs)
  seen_first None seen = tt
  seen_first (Some first) seen = record {
    twice = neighbours_twice xs order first seen.found;
    least = λ m twice. (let up = all_seen (Some first) seen m twice in omega (arith, up.1, up.2));
  }
