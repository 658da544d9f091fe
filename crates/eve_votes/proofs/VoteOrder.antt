-- Votes in order, and where those on a batch in a view begin.
use Rattle.std.proofs.Common.{◌≡◌, ℕ, ◌+◌, ◌-◌, ◌<◌, ◌≤◌, Bool, true, false, cond, ltb, is_lt, nat_cmp, List}
use Rattle.std.proofs.Common.{length, get_or, Some, refl, sym, ap, subst, ◌∙◌, arith, ◌⊎◌, inl, inr}
use Rattle.std.specs.Prelude.{◌==◌, ◌&&◌, ◌||◌, slice_get}
use Rattle.std.specs.declared.cmp.Ordering.TheVariants.{Less, Equal, Greater}
use Rattle.std.specs.Ordering.{ordering_then}
use Rattle.std.specs.List.Sorted.{IsPartitionedBy}
use Rattle.std.proofs.lemmas.Bool.{ltb-true, ltb-false, eqb-true, eqb-false, eq-eqb, lt-ltb, and_parts, and_from}
use Rattle.std.proofs.lemmas.Bool.{false≢true, cases_lt}
use Rattle.std.proofs.lemmas.Option.{slice_get-get_or, slice_get_within, get_or_from_slice_get}
use Rattle.eve_views.specs.Order.{AreInOrder}
use Rattle.eve_votes.specs.Ballots.{is_alike, is_fellow, is_at, is_lower, IsBefore, IsNoLaterBallot}
use Rattle.eve_votes.specs.Ballots.{IsStart}
use Rattle.eve_votes.specs.Ballots.{Adjoin, Continues}
use Rattle.eve_votes.specs.declared.ballots.Ballot.{Ballot}
use Rattle.eve_views.proofs.Lists.{all_after}

abbrev pub at : ℕ → ℕ → ℕ → Ballot
at n view v = record { seq = n; view = view; verifier = v; place = 0 }

-- ---- alike

pub record Alike (a b : Ballot) : Type 0 where
  pub seq : a.seq ≡ b.seq
  pub view : a.view ≡ b.view
  pub verifier : a.verifier ≡ b.verifier

pub alike_is : (a b : Ballot) → is_alike a b ≡ true → Alike a b
alike_is a b h =
    let parts = and_parts (a.seq == b.seq) ((a.view == b.view) && (a.verifier == b.verifier)) h in
    let inner = and_parts (a.view == b.view) (a.verifier == b.verifier) parts.1 in
    record {
      seq = eqb-true a.seq b.seq parts.0;
      view = eqb-true a.view b.view inner.0;
      verifier = eqb-true a.verifier b.verifier inner.1;
    }

pub is_alike_from : (a b : Ballot) → Alike a b → is_alike a b ≡ true
is_alike_from a b h =
    and_from (a.seq == b.seq) ((a.view == b.view) && (a.verifier == b.verifier)) (eq-eqb a.seq b.seq h.seq)
    (and_from (a.view == b.view) (a.verifier == b.verifier) (eq-eqb a.view b.view h.view)
    (eq-eqb a.verifier b.verifier h.verifier))

-- ---- lower

pub lower_before : (n view : ℕ) (b : Ballot) → is_lower n view b ≡ true → IsBefore b (at n view 0)
lower_before n view b h = by (ltb b.seq n) (b.seq == n) (ltb b.view view) refl refl refl h
  where
    by : (x y z : Bool) → ltb b.seq n ≡ x → (b.seq == n) ≡ y → ltb b.view view ≡ z → (x || (y && z)) ≡ true →
        IsBefore b (at n view 0)
    by true y z e f g h = (let lt = ltb-true b.seq n e in
        record { seq = omega arith; view = λ le. absurd (omega arith); verifier = λ le more. absurd (omega arith) })
    by false true true e f g h =
        let same = eqb-true b.seq n f in
        let lt = ltb-true b.view view g in
        record { seq = omega arith; view = λ le. omega arith; verifier = λ le more. absurd (omega arith) }
    by false true false e f g h = absurd (false≢true h)
    by false false z e f g h = absurd (false≢true h)

pub not_lower_behind : (n view : ℕ) (b : Ballot) → is_lower n view b ≡ false → IsNoLaterBallot (at n view 0) b
not_lower_behind n view b h = by (ltb b.seq n) (b.seq == n) (ltb b.view view) refl refl refl h
  where
    by : (x y z : Bool) → ltb b.seq n ≡ x → (b.seq == n) ≡ y → ltb b.view view ≡ z → (x || (y && z)) ≡ false →
        IsNoLaterBallot (at n view 0) b
    by true y z e f g h = absurd (false≢true (sym h))
    by false true true e f g h = absurd (false≢true (sym h))
    by false true false e f g h =
        let ge = ltb-false b.seq n e in
        let up = ltb-false b.view view g in
        record { seq = ge; view = λ le. up; verifier = λ le more. omega arith; place = λ le more most. omega arith }
    by false false z e f g h =
        let ge = ltb-false b.seq n e in
        let other = eqb-false b.seq n f in
        record {
          seq = ge;
          view = λ le. absurd (other (omega arith));
          verifier = λ le more. omega arith;
          place = λ le more most. omega arith;
        }

-- one can't come between what comes before it and what doesn't come after it
no_round : (a b x : Ballot) → IsNoLaterBallot x a → IsBefore a b → IsBefore b x → ⊥
no_round a b x xa ab bx =
    let s = xa.seq in
    let u = ab.seq in
    let w = bx.seq in
    let f = xa.view (omega arith) in
    let g = ab.view (omega arith) in
    let h = bx.view (omega arith) in
    let p = xa.verifier (omega arith) (omega arith) in
    let q = ab.verifier (omega arith) (omega arith) in
    let r = bx.verifier (omega arith) (omega arith) in
    omega arith

pub parted : (n view : ℕ) (xs : List Ballot) → AreInOrder IsBefore xs → IsPartitionedBy (is_lower n view) xs
parted n view xs order i j d le lt low = by (cases_lt i j)
  where
    by : (i < j) ⊎ (j ≤ i) → is_lower n view (get_or xs i d) ≡ true
    by (inl less) = by_test (is_lower n view (get_or xs i d)) refl
      where
        by_test : (t : Bool) → is_lower n view (get_or xs i d) ≡ t → t ≡ true
        by_test true e = refl
        by_test false e =
            absurd (no_round (get_or xs i d) (get_or xs j d) (at n view 0) (not_lower_behind n view (get_or xs i d) e)
            (order i j (get_or xs i d) (get_or xs j d) less (slice_get-get_or xs i d (omega arith))
            (slice_get-get_or xs j d lt))
            (lower_before n view (get_or xs j d) low))
    by (inr ge) = (let same : i ≡ j = omega arith in ap (λ (k : ℕ). is_lower n view (get_or xs k d)) same ∙ low)

pub start_is : (n view : ℕ) (xs : List Ballot) (s : ℕ) → ((k : ℕ) (d : Ballot) → 0 ≤ k → k < s →
    is_lower n view (get_or xs k d) ≡ true)
    → ((k : ℕ) (d : Ballot) → s ≤ k → k < length xs → is_lower n view (get_or xs k d) ≡ false) → IsStart xs s n view 0
start_is n view xs s low high = record {
  before = λ i b less got. lower_before n view b (ap (is_lower n view) (sym (get_or_from_slice_get xs i b b got)) ∙
      low i b (omega arith) less);
  behind = λ i b ge got. not_lower_behind n view b (ap (is_lower n view) (sym (get_or_from_slice_get xs i b b got)) ∙
      high i b ge (slice_get_within xs i b got));
}

-- ---- neighbours

adjoined : {xs : List Ballot} {i : ℕ} {a b : Ballot} (test : Ballot → Ballot → Bool) → 1 ≤ i → slice_get xs (i - 1)
    ≡ Some a → slice_get xs i ≡ Some b → test a b ≡ true → Adjoin test xs i
adjoined {a = a} {b = b} test some e f alike = record {
  some = some;
  former = a;
  later = b;
  former_is = e;
  later_is = f;
  alike = alike;
}

-- where one stands before another so, and so does all that lies between, the other and the one before it adjoin
pub adjoin_later : {R : Ballot → Ballot → Type 0} {xs : List Ballot} (test : Ballot → Ballot → Bool) → AreInOrder R xs
    → (i j : ℕ) (a b : Ballot) → i < j → slice_get xs i ≡ Some a → slice_get xs j ≡ Some b
    → ((c : Ballot) → R a c → R c b → test c b ≡ true) → test a b ≡ true → Adjoin test xs j
adjoin_later {R} {xs} test order i j a b less e f between own = by (cases_lt i (j - 1))
  where
    by : (i < j - 1) ⊎ (j - 1 ≤ i) → Adjoin test xs j
    by (inl lt) =
        let there : j - 1 < length xs = (let within = slice_get_within xs j b f in omega arith) in
        let c = get_or xs (j - 1) a in
        let got = slice_get-get_or xs (j - 1) a there in
        adjoined test (omega arith) got f
        (between c (order i (j - 1) a c lt e got) (order (j - 1) j c b (omega arith) got f))
    by (inr ge) =
        let same : i ≡ j - 1 = omega arith in
        adjoined test (omega arith) (ap (slice_get xs) (sym same) ∙ e) f own

-- the same of the one and the one after it
pub adjoin_next : {R : Ballot → Ballot → Type 0} {xs : List Ballot} (test : Ballot → Ballot → Bool) → AreInOrder R xs
    → (i j : ℕ) (a b : Ballot) → i < j → slice_get xs i ≡ Some a → slice_get xs j ≡ Some b
    → ((c : Ballot) → R a c → R c b → test a c ≡ true) → test a b ≡ true → Adjoin test xs (i + 1)
adjoin_next {R} {xs} test order i j a b less e f between own = by (cases_lt (i + 1) j)
  where
    back : i ≡ i + 1 - 1
    back = omega arith

    by : (i + 1 < j) ⊎ (j ≤ i + 1) → Adjoin test xs (i + 1)
    by (inl lt) =
        let there : i + 1 < length xs = (let within = slice_get_within xs j b f in omega arith) in
        let c = get_or xs (i + 1) a in
        let got = slice_get-get_or xs (i + 1) a there in
        adjoined test (omega arith) (ap (slice_get xs) (sym back) ∙ e) got
        (between c (order i (i + 1) a c (omega arith) e got) (order (i + 1) j c b lt got f))
    by (inr ge) =
        let same : i + 1 ≡ j = omega arith in
        adjoined test (omega arith) (ap (slice_get xs) (sym back) ∙ e) (ap (slice_get xs) same ∙ f) own

-- ---- from one batch or view to the next

pub fellow_is : (a b : Ballot) → is_fellow a b ≡ true → (a.seq ≡ b.seq) × (a.view ≡ b.view)
fellow_is a b h =
    let parts = and_parts (a.seq == b.seq) (a.view == b.view) h in
    (eqb-true a.seq b.seq parts.0, eqb-true a.view b.view parts.1)

pub is_fellow_from : (a b : Ballot) → a.seq ≡ b.seq → a.view ≡ b.view → is_fellow a b ≡ true
is_fellow_from a b e f = and_from (a.seq == b.seq) (a.view == b.view) (eq-eqb a.seq b.seq e) (eq-eqb a.view b.view f)

-- where the vote before isn't on the same, those on its batch in its view begin
pub begins : (xs : List Ballot) (i : ℕ) (b : Ballot) → AreInOrder IsBefore xs → slice_get xs i ≡ Some b
    → (Continues xs i → ⊥) → IsStart xs i b.seq b.view 0
begins xs i b order got none = record {
  before = λ j a less at_j. (
      let h = order j i a b less at_j got in
      record {
        seq = h.seq;
        view = h.view;
        verifier = λ le more. absurd (none (continuing j a less at_j le more));
      });
  behind = λ j c ge at_j. by j c at_j (cases_lt i j) ge;
}
  where
    by : (j : ℕ) (c : Ballot) → slice_get xs j ≡ Some c → (i < j) ⊎ (j ≤ i) → i ≤ j
        → IsNoLaterBallot (at b.seq b.view 0) c
    by j c at_j (inl less) ge =
        let h = order i j b c less got at_j in
        record { seq = h.seq; view = h.view; verifier = λ le more. omega arith; place = λ le more most. omega arith }
    by j c at_j (inr le) ge =
        let same : j ≡ i = omega arith in
        let is : Some c ≡ Some b = sym at_j ∙ ap (slice_get xs) same ∙ got in
        let equal : b ≡ c = cc in
        subst (IsNoLaterBallot (at b.seq b.view 0)) equal (record {
          seq = omega arith;
          view = λ le. omega arith;
          verifier = λ le more. omega arith;
          place = λ le more most. omega arith;
        })

    continuing : (j : ℕ) (a : Ballot) → j < i → slice_get xs j ≡ Some a → b.seq ≤ a.seq → b.view ≤ a.view
        → Continues xs i
    continuing j a less at_j le more = adjoin_later is_fellow order j i a b less at_j got
        (λ c ac cb.
        (let s = ac.seq in
        let u = cb.seq in
        let seq : c.seq ≡ b.seq = omega arith in
        let x = ac.view (omega arith) in
        let y = cb.view (omega arith) in
        let view : c.view ≡ b.view = omega arith in
        is_fellow_from c b seq view))
        (let h = order j i a b less at_j got in
        let s = h.seq in
        let seq : a.seq ≡ b.seq = omega arith in
        let y = h.view (omega arith) in
        let view : a.view ≡ b.view = omega arith in
        is_fellow_from a b seq view)

-- ---- to the next verifier

module _ (xs : List Ballot) (order : AreInOrder IsBefore xs) (s n view v : ℕ) (start : IsStart xs s n view v) where
  before_next : (i : ℕ) (b : Ballot) → i < s → slice_get xs i ≡ Some b → IsBefore b (at n view (v + 1))
  before_next i b less got =
      let h = start.before i b less got in
      record { seq = h.seq; view = h.view; verifier = λ le more. (let lt = h.verifier le more in omega arith) }

  -- this verifier's vote is here
  pub start_hit : (b : Ballot) → slice_get xs s ≡ Some b → Alike b (at n view v) → IsStart xs (s + 1) n view (v + 1)
  start_hit b got alike = record {
    before = λ i c less at_i. by i c at_i (cases_lt i s) less;
    behind = λ i c ge at_i. (
        let h = order s i b c (omega arith) got at_i in
        let e = alike.seq in
        let f = alike.view in
        let g = alike.verifier in
        record {
          seq = omega (arith, h.seq, e);
          view = λ le. (let up = h.view (omega arith) in omega arith);
          verifier = λ le more. (let up = h.verifier (omega arith) (omega arith) in omega arith);
          place = λ le more most. omega arith;
        });
  }
    where
      by : (i : ℕ) (c : Ballot) → slice_get xs i ≡ Some c → (i < s) ⊎ (s ≤ i) → i < s + 1 →
          IsBefore c (at n view (v + 1))
      by i c at_i (inl less) lt = before_next i c less at_i
      by i c at_i (inr ge) lt =
          let same : i ≡ s = omega arith in
          let is : Some c ≡ Some b = sym at_i ∙ ap (slice_get xs) same ∙ got in
          let same_ballot : c ≡ b = cc in
          let e : c.seq ≡ n = ap (λ (x : Ballot). x.seq) same_ballot ∙ alike.seq in
          let f : c.view ≡ view = ap (λ (x : Ballot). x.view) same_ballot ∙ alike.view in
          let g : c.verifier ≡ v = ap (λ (x : Ballot). x.verifier) same_ballot ∙ alike.verifier in
          record { seq = omega arith; view = λ le. omega arith; verifier = λ le more. omega arith }

  -- what is after, where this verifier's vote isn't here
  behind_later : ((b : Ballot) → slice_get xs s ≡ Some b → Alike b (at n view v) → ⊥) → (i : ℕ) (c : Ballot) → s ≤ i →
      slice_get xs i ≡ Some c
      → n ≡ c.seq → view ≡ c.view → v < c.verifier
  behind_later none i c ge got e f = by (cases_lt s i)
    where
      by : (s < i) ⊎ (i ≤ s) → v < c.verifier
      by (inl less) =
          let there : s < length xs = (let lt = slice_get_within xs i c got in omega arith) in
          let at_s = slice_get-get_or xs s c there in
          let b = get_or xs s c in
          let h = start.behind s b (omega arith) at_s in
          let g = order s i b c less at_s got in
          let p = h.seq in
          let q = g.seq in
          let r = h.view (omega arith) in
          let u = g.view (omega arith) in
          let w = h.verifier (omega arith) (omega arith) in
          let z = g.verifier (omega arith) (omega arith) in
          omega arith
      by (inr le) =
          let same : i ≡ s = omega arith in
          let here : slice_get xs s ≡ Some c = ap (slice_get xs) (sym same) ∙ got in
          let h = start.behind s c (omega arith) here in
          let w = h.verifier (omega arith) (omega arith) in
          apart (λ is. none c here (record { seq = sym e; view = sym f; verifier = sym is })) w
        where
          apart : (v ≡ c.verifier → ⊥) → v ≤ c.verifier → v < c.verifier
          apart ne le = omega arith

  pub start_miss : ((b : Ballot) → slice_get xs s ≡ Some b → Alike b (at n view v) → ⊥) → IsStart xs s n view (v + 1)
  start_miss none = record {
    before = before_next;
    behind = λ i c ge got. (
        let h = start.behind i c ge got in
        record {
          seq = h.seq;
          view = h.view;
          verifier = λ le more. (
              let s = h.seq in
              let u = h.view le in
              let lt = behind_later none i c ge got (omega arith) (omega arith) in
              omega arith);
          place = λ le more most. omega arith;
        });
  }

  -- then this verifier has none on the batch in this view
  pub none_among : ((b : Ballot) → slice_get xs s ≡ Some b → Alike b (at n view v) → ⊥) → (i : ℕ) (c : Ballot) →
      slice_get xs i ≡ Some c → Alike c (at n view v) → ⊥
  none_among none i c got alike = by (cases_lt i s)
    where
      by : (i < s) ⊎ (s ≤ i) → ⊥
      by (inl less) =
          let h = start.before i c less got in
          let e = alike.seq in
          let f = alike.view in
          let g = alike.verifier in
          let lt = h.verifier (omega arith) (omega arith) in
          omega arith
      by (inr ge) =
          let g = alike.verifier in
          let lt = behind_later none i c ge got (sym alike.seq) (sym alike.view) in
          omega arith

-- ---- what a test of a place says

pub here : (xs : List Ballot) (s : ℕ) (b : Ballot) → is_at xs s b ≡ true → (s < length xs) × ((d : Ballot) →
    Alike (get_or xs s d) b)
here xs s b h =
    let parts = and_parts (ltb s (length xs)) (is_alike (get_or xs s b) b) h in
    let there = ltb-true s (length xs) parts.0 in
    let got = slice_get-get_or xs s b there in (
      there,
      λ d. subst (λ (x : Ballot). Alike x b) (sym (get_or_from_slice_get xs s (get_or xs s b) d got))
          (alike_is (get_or xs s b) b parts.1),
    )

pub nowhere : (xs : List Ballot) (s : ℕ) (b : Ballot) → is_at xs s b ≡ false → (c : Ballot) →
    slice_get xs s ≡ Some c → Alike c b → ⊥
nowhere xs s b h c got alike =
    let there = lt-ltb s (length xs) (slice_get_within xs s c got) in
    let is : is_alike (get_or xs s b) b ≡ true = ap (λ (x : Ballot). is_alike x b) (get_or_from_slice_get xs s c b got)
    ∙ is_alike_from c b alike in
    false≢true (sym h ∙ and_from (ltb s (length xs)) (is_alike (get_or xs s b) b) there is)

-- ---- sorted

abbrev not_less : Ballot → Ballot → Bool
not_less a b = is_lt (ordering_then (nat_cmp b.seq a.seq)
    (ordering_then (nat_cmp b.view a.view) (ordering_then (nat_cmp b.verifier a.verifier) (nat_cmp b.place a.place))))

-- each and the next, in the sort's order
pub not_after : (a b : Ballot) → not_less a b ≡ false → IsNoLaterBallot a b
not_after a b h = by (ltb b.seq a.seq) (b.seq == a.seq) (ltb b.view a.view) (b.view == a.view)
    (ltb b.verifier a.verifier) (b.verifier == a.verifier) (ltb b.place a.place) (b.place == a.place)
    refl refl refl refl refl refl refl h
  where
    by : (p q r s u w x y : Bool) → ltb b.seq a.seq ≡ p → (b.seq == a.seq) ≡ q → ltb b.view a.view ≡ r →
        (b.view == a.view) ≡ s
        → ltb b.verifier a.verifier ≡ u → (b.verifier == a.verifier) ≡ w → ltb b.place a.place ≡ x
        → is_lt (ordering_then (cond p Less (cond q Equal Greater)) (ordering_then (cond r Less (cond s Equal Greater))
        (ordering_then (cond u Less (cond w Equal Greater)) (cond x Less (cond y Equal Greater))))) ≡ false →
        IsNoLaterBallot a b
    by true q r s u w x y e1 e2 e3 e4 e5 e6 e7 h = absurd (false≢true (sym h))
    by false true true s u w x y e1 e2 e3 e4 e5 e6 e7 h = absurd (false≢true (sym h))
    by false true false true true w x y e1 e2 e3 e4 e5 e6 e7 h = absurd (false≢true (sym h))
    by false true false true false true true y e1 e2 e3 e4 e5 e6 e7 h = absurd (false≢true (sym h))
    by false true false true false true false y e1 e2 e3 e4 e5 e6 e7 h = record {
      seq = ltb-false b.seq a.seq e1;
      view = λ le. ltb-false b.view a.view e3;
      verifier = λ le more. ltb-false b.verifier a.verifier e5;
      place = λ le more most. ltb-false b.place a.place e7;
    }
    by false true false true false false x y e1 e2 e3 e4 e5 e6 e7 h =
        let up = ltb-false b.verifier a.verifier e5 in
        let other = eqb-false b.verifier a.verifier e6 in
        record {
          seq = ltb-false b.seq a.seq e1;
          view = λ le. ltb-false b.view a.view e3;
          verifier = λ le more. up;
          place = λ le more most. absurd (other (omega arith));
        }
    by false true false false u w x y e1 e2 e3 e4 e5 e6 e7 h =
        let up = ltb-false b.view a.view e3 in
        let other = eqb-false b.view a.view e4 in
        record {
          seq = ltb-false b.seq a.seq e1;
          view = λ le. up;
          verifier = λ le more. absurd (other (omega arith));
          place = λ le more most. absurd (other (omega arith));
        }
    by false false r s u w x y e1 e2 e3 e4 e5 e6 e7 h =
        let up = ltb-false b.seq a.seq e1 in
        let other = eqb-false b.seq a.seq e2 in
        record {
          seq = up;
          view = λ le. absurd (other (omega arith));
          verifier = λ le more. absurd (other (omega arith));
          place = λ le more most. absurd (other (omega arith));
        }

not_after_trans : (a b c : Ballot) → IsNoLaterBallot a b → IsNoLaterBallot b c → IsNoLaterBallot a c
not_after_trans a b c ab bc = record {
  seq = omega (arith, ab.seq, bc.seq);
  view = λ le. (let s = ab.seq in let u = bc.seq in let x = ab.view (omega arith) in let y = bc.view (omega arith) in
      omega arith);
  verifier = λ le more. (
      let s = ab.seq in
      let u = bc.seq in
      let x = ab.view (omega arith) in
      let y = bc.view (omega arith) in
      let p = ab.verifier (omega arith) (omega arith) in
      let q = bc.verifier (omega arith) (omega arith) in
      omega arith);
  place = λ le more most. (
      let s = ab.seq in
      let u = bc.seq in
      let x = ab.view (omega arith) in
      let y = bc.view (omega arith) in
      let p = ab.verifier (omega arith) (omega arith) in
      let q = bc.verifier (omega arith) (omega arith) in
      let r = ab.place (omega arith) (omega arith) (omega arith) in
      let w = bc.place (omega arith) (omega arith) (omega arith) in
      omega arith);
}

pub in_order : (xs : List Ballot) → ((k : ℕ) (d : Ballot) → k + 1 < length xs →
    not_less (get_or xs k d) (get_or xs (k + 1) d) ≡ false) → AreInOrder IsNoLaterBallot xs
in_order xs sorted = all_after IsNoLaterBallot not_after_trans xs
    (λ k d lt. not_after (get_or xs k d) (get_or xs (k + 1) d) (sorted k d lt))
