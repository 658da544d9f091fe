-- Public: other crates cite these lemmas. Which votes are a verifier's only ones on their batch in their view, and
-- which are further ones.
use Rattle.std.proofs.Common.{◌≡◌, ℕ, zero, suc, ◌+◌, ◌-◌, ◌<◌, ◌≤◌, Bool, true, false, cond, List, [], ◌∷◌, ◌++◌}
use Rattle.std.proofs.Common.{length, get_or, take, filter, Option, Some, IfSome, refl, sym, ap, subst, ◌∙◌}
use Rattle.std.proofs.Common.{arith, ◌⊎◌, inl, inr}
use Rattle.std.specs.Prelude.{◌==◌, ◌||◌, slice_get}
use Rattle.std.specs.List.{list_any}
use Rattle.std.specs.Option.{option_map}
use Rattle.std.proofs.Math.Bool.{or-true}
use Rattle.std.proofs.lemmas.Bool.{eqb-true, eq-eqb, and_parts, and_from, cases_lt, false≢true}
use Rattle.std.proofs.lemmas.Option.{slice_get-get_or, slice_get_within}
use Rattle.eve_grammar.specs.Trace.{Vote, Trace}
use Rattle.eve_grammar.specs.Spelling.{votes_of, votes_at}
use Rattle.eve_grammar.proofs.Lists.{get_in_prefix}
use Rattle.eve_views.specs.declared.fault.Code.TheVariants as code
use Rattle.eve_votes.specs.Votes.{is_vote_on}
use Rattle.eve_votes.specs.Faults.{IsFurther, StandsInVotes}
use Rattle.eve_views.specs.Least.{lower, IsBelow}
use Rattle.eve_votes.specs.inner.Least.{IsLowest}
use Rattle.eve_views.specs.Order.{AreInOrder}
use Rattle.eve_votes.specs.Ballots.{ballot, is_alike, IsBefore, IsNoLaterBallot, FollowsAlike, IsVoteOf}
use Rattle.eve_votes.specs.Ballots.{HasVotes}
use Rattle.eve_votes.specs.Ballots.{IsOnly, HasCast}
use Rattle.eve_votes.specs.declared.ballots.Ballot.{Ballot}
use Rattle.eve_votes.proofs.Places.{place_at, get_place, get_between}
use Rattle.eve_views.proofs.LeastNumbers.{lower_lowers, lower_at, lower_stands}
use Rattle.eve_views.specs.Form.{SomePlace}
use Rattle.eve_votes.proofs.DecisionLaws.{vote_got}
use Rattle.eve_votes.proofs.VoteOrder.{Alike, alike_is, is_alike_from, adjoin_later, adjoin_next}

-- ---- lists

any_before : {A : Type 0} (f : A → Bool) (xs : List A) (i j : ℕ) (x : A) → i < j → slice_get xs i ≡ Some x →
    f x ≡ true → list_any f (take j xs) ≡ true
any_before f [] i j x less e is = absurd cc
any_before f (y ∷ xs) i zero x less e is = absurd (omega arith)
any_before f (y ∷ xs) zero (suc j) x less e is =
    (let same : y ≡ x = cc in ap (λ t. t || list_any f (take j xs)) (ap f same ∙ is))
any_before f (y ∷ xs) (suc i) (suc j) x less e is = ap (λ t. f y || t) (any_before f xs i j x (omega arith) e is) ∙
    or-true (f y)

found_any : {A : Type 0} (f : A → Bool) (xs : List A) → list_any f xs ≡ true → (i : ℕ) × (x : A) ×
    (slice_get xs i ≡ Some x) × (f x ≡ true)
found_any f [] e = absurd (false≢true e)
found_any {A} f (x ∷ xs) e = by (f x) refl e (λ more. found_any f xs more)
  where
    by : (t : Bool) → f x ≡ t → (t || list_any f xs) ≡ true → (list_any f xs ≡ true → (i : ℕ) × (y : A) ×
        (slice_get xs i ≡ Some y) × (f y ≡ true))
        → (i : ℕ) × (y : A) × (slice_get (x ∷ xs) i ≡ Some y) × (f y ≡ true)
    by true is h rest = (0, x, refl, is)
    by false is h rest = (let found = rest h in (suc found.0, found.1, found.2, found.3))

-- what one more adds
last_one : {A : Type 0} (xs : List A) (x : A) (j : ℕ) (y : A) → slice_get (xs ++ x ∷ []) j ≡ Some y →
    (slice_get xs j ≡ Some y) ⊎ ((j ≡ length xs) × (y ≡ x))
last_one [] x zero y e = inr (refl, cc)
last_one [] x (suc j) y e = absurd cc
last_one (z ∷ xs) x zero y e = inl e
last_one (z ∷ xs) x (suc j) y e = elim (last_one xs x j y e) [ inl f ↦ inl f | inr w ↦ inr (ap suc w.0, w.1) ]

-- ---- those that pass

no_one_left : {A : Type 0} (f : A → Bool) (xs : List A) (p : ℕ) (x : A) → filter f xs ≡ [] → slice_get xs p ≡ Some x →
    f x ≡ true → ⊥
no_one_left f [] p x none e is = absurd cc
no_one_left {A} f (y ∷ xs) p x none e is = by (f y) refl none p e (λ q more got. no_one_left f xs q x more got is)
  where
    by : (t : Bool) → f y ≡ t → cond t (y ∷ filter f xs) (filter f xs) ≡ [] → (q : ℕ) → slice_get (y ∷ xs) q ≡ Some x
        → ((r : ℕ) → filter f xs ≡ [] → slice_get xs r ≡ Some x → ⊥) → ⊥
    by true g h q got rest = absurd (let e = ap {B = ℕ} length h in omega arith)
    by false g h zero got rest = (let same : y ≡ x = cc in false≢true (sym g ∙ ap f same ∙ is))
    by false g h (suc q) got rest = rest q h got

-- where one passes alone it is at one place
pub same_place : {A : Type 0} (f : A → Bool) (xs : List A) (w : A) → filter f xs ≡ w ∷ [] → (p q : ℕ) (x y : A) →
    slice_get xs p ≡ Some x → f x ≡ true → slice_get xs q ≡ Some y → f y ≡ true → p ≡ q
same_place f [] w one p q x y e is g it = absurd cc
same_place {A} f (z ∷ xs) w one p q x y e is g it =
    by (f z) refl one p q e g (λ more i j a b. same_place f xs w more i j x y a is b it)
  where
    by : (t : Bool) → f z ≡ t → cond t (z ∷ filter f xs) (filter f xs) ≡ w ∷ [] → (i j : ℕ) →
        slice_get (z ∷ xs) i ≡ Some x → slice_get (z ∷ xs) j ≡ Some y
        → (filter f xs ≡ w ∷ [] → (i j : ℕ) → slice_get xs i ≡ Some x → slice_get xs j ≡ Some y → i ≡ j) → i ≡ j
    by true h only zero zero a b rest = refl
    by true h only zero (suc j) a b rest =
        absurd (no_one_left f xs j y (let tails : filter f xs ≡ [] = cc in tails) b it)
    by true h only (suc i) j a b rest = absurd (no_one_left f xs i x (let tails : filter f xs ≡ [] = cc in tails) a is)
    by false h only zero j a b rest = absurd (let same : z ≡ x = cc in false≢true (sym h ∙ ap f same ∙ is))
    by false h only (suc i) zero a b rest = absurd (let same : z ≡ y = cc in false≢true (sym h ∙ ap f same ∙ it))
    by false h only (suc i) (suc j) a b rest = ap suc (rest only i j a b)

none_passes : {A : Type 0} (f : A → Bool) (xs : List A) → ((q : ℕ) (y : A) → slice_get xs q ≡ Some y → f y ≡ true →
    ⊥) → filter f xs ≡ []
none_passes f [] none = refl
none_passes f (x ∷ xs) none = by (f x) refl (none_passes f xs (λ q y got is. none (suc q) y got is))
  where
    by : (t : Bool) → f x ≡ t → filter f xs ≡ [] → cond t (x ∷ filter f xs) (filter f xs) ≡ []
    by true is rest = absurd (none 0 x refl is)
    by false is rest = rest

-- where one place alone has one that passes
pub one_passes : {A : Type 0} (f : A → Bool) (xs : List A) (p : ℕ) (w : A) → slice_get xs p ≡ Some w → f w ≡ true →
    ((q : ℕ) (y : A) → slice_get xs q ≡ Some y → f y ≡ true → q ≡ p) → filter f xs ≡ w ∷ []
one_passes f [] p w e is only = absurd cc
one_passes {A} f (x ∷ xs) zero w e is only =
    let same : x ≡ w = cc in
    let rest : filter f xs ≡ [] =
    none_passes f xs (λ q y got it. (let bad = only (suc q) y got it in absurd (omega arith))) in
    ap (λ t. cond t (x ∷ filter f xs) (filter f xs)) (ap f same ∙ is) ∙ (λ k. same k ∷ rest k)
one_passes {A} f (x ∷ xs) (suc p) w e is only =
    by (f x) refl (one_passes f xs p w e is (λ q y got it. (let found = only (suc q) y got it in omega arith)))
  where
    by : (t : Bool) → f x ≡ t → filter f xs ≡ w ∷ [] → cond t (x ∷ filter f xs) (filter f xs) ≡ w ∷ []
    by true it rest = absurd (let bad = only 0 x refl it in omega arith)
    by false it rest = rest

-- it is at some place
pub passing_place : {A : Type 0} (f : A → Bool) (xs : List A) (w : A) → filter f xs ≡ w ∷ [] → (p : ℕ) ×
    (slice_get xs p ≡ Some w) × (f w ≡ true)
passing_place f [] w one = absurd cc
passing_place {A} f (x ∷ xs) w one = by (f x) refl one (λ more. passing_place f xs w more)
  where
    by : (t : Bool) → f x ≡ t → cond t (x ∷ filter f xs) (filter f xs) ≡ w ∷ [] → (filter f xs ≡ w ∷ [] → (p : ℕ) ×
        (slice_get xs p ≡ Some w) × (f w ≡ true))
        → (p : ℕ) × (slice_get (x ∷ xs) p ≡ Some w) × (f w ≡ true)
    by true is only rest = (let same : x ≡ w = cc in (0, ap (λ (z : A). Some z) same, sym (ap f same) ∙ is))
    by false is only rest = (let found = rest only in (suc found.0, found.1, found.2))

-- ---- alike

on_ballot : (w : Vote) (b : Ballot) → w.seq ≡ b.seq → w.view ≡ b.view → is_vote_on b.seq b.view w ≡ true
on_ballot w b seq view = and_from (w.seq == b.seq) (w.view == b.view) (eq-eqb w.seq b.seq seq)
    (eq-eqb w.view b.view view)

pub voted : (n view : ℕ) (w : Vote) → is_vote_on n view w ≡ true → (w.seq ≡ n) × (w.view ≡ view)
voted n view w is = (let parts = and_parts (w.seq == n) (w.view == view) is in (
  eqb-true w.seq n parts.0,
  eqb-true w.view view parts.1,
))

-- what lies between is alike too
between_first : (a c b : Ballot) → IsNoLaterBallot a c → IsNoLaterBallot c b → Alike a b → Alike a c
between_first a c b ac cb h =
    let e = h.seq in
    let f = h.view in
    let g = h.verifier in
    let s = ac.seq in
    let u = cb.seq in
    let x = ac.view (omega arith) in
    let y = cb.view (omega arith) in
    let p = ac.verifier (omega arith) (omega arith) in
    let q = cb.verifier (omega arith) (omega arith) in
    record { seq = omega arith; view = omega arith; verifier = omega arith }

between_last : (a c b : Ballot) → IsNoLaterBallot a c → IsNoLaterBallot c b → Alike a b → Alike c b
between_last a c b ac cb h =
    let one = between_first a c b ac cb h in
    record { seq = sym one.seq ∙ h.seq; view = sym one.view ∙ h.view; verifier = sym one.verifier ∙ h.verifier }

strict : (a b : Ballot) → IsNoLaterBallot a b → (Alike a b → ⊥) → IsBefore a b
strict a b h apart = record {
  seq = h.seq;
  view = h.view;
  verifier = λ le more. lesser (h.verifier le more)
      (λ same. apart (record {
        seq = (let s = h.seq in omega arith);
        view = (let v = h.view le in omega arith);
        verifier = same;
      }));
}
  where
    lesser : a.verifier ≤ b.verifier → (a.verifier ≡ b.verifier → ⊥) → a.verifier < b.verifier
    lesser le ne = omega arith

-- up to this place those that are only ones were taken, and a fault stands at the least offset of the others
pub record Sifted (t : Trace) (xs : List Ballot) (i : ℕ) (only : List Ballot) (least : Option ℕ) : Type 0 where
  pub stands : IfSome least (StandsInVotes code.TwoVotes t)
  pub below : (k : ℕ) (b : Ballot) (o : ℕ) (w : Vote) → k < i → FollowsAlike xs k → slice_get xs k ≡ Some b →
      slice_get (votes_at t b.verifier) b.place ≡ Some (o, w) → IsBelow least o
  pub each : (j : ℕ) (b : Ballot) → slice_get only j ≡ Some b → IsOnly t b
  pub behind : (j : ℕ) (a : Ballot) (k : ℕ) (b : Ballot) → slice_get only j ≡ Some a → i ≤ k →
      slice_get xs k ≡ Some b → IsBefore a b
  pub order : AreInOrder IsBefore only
  pub all : (k : ℕ) (b : Ballot) → k < i → slice_get xs k ≡ Some b → (FollowsAlike xs k → ⊥)
      → (FollowsAlike xs (k + 1) → ⊥) →
      (j : ℕ) × (slice_get only j ≡ Some b)

module _ (t : Trace) (xs : List Ballot) (votes : HasVotes t xs) where
  -- where two are alike, the later follows, and the one after the first
  later_follows : (i j : ℕ) (a b : Ballot) → i < j → slice_get xs i ≡ Some a → slice_get xs j ≡ Some b → Alike a b →
      FollowsAlike xs j
  later_follows i j a b less e f h = adjoin_later is_alike votes.order i j a b less e f
      (λ c ac cb. is_alike_from c b (between_last a c b ac cb h)) (is_alike_from a b h)

  next_follows : (i j : ℕ) (a b : Ballot) → i < j → slice_get xs i ≡ Some a → slice_get xs j ≡ Some b → Alike a b →
      FollowsAlike xs (i + 1)
  next_follows i j a b less e f h = adjoin_next is_alike votes.order i j a b less e f
      (λ c ac cb. is_alike_from a c (between_first a c b ac cb h)) (is_alike_from a b h)

  -- ---- a further vote

  same_ballot : (k : ℕ) (a b : Ballot) → slice_get xs k ≡ Some a → slice_get xs k ≡ Some b → a ≡ b
  same_ballot k a b e f = (let both = sym e ∙ f in cc)

  -- the vote of the one before stands before it
  former_before : (i : ℕ) (h : FollowsAlike xs i) → h.former.place < h.later.place
  former_before i h =
      let like = alike_is h.former h.later h.alike in
      let le = votes.order (i - 1) i h.former h.later (let s = h.some in omega arith) h.former_is h.later_is in
      let e = like.seq in
      let f = like.view in
      let g = like.verifier in
      lesser (le.place (omega arith) (omega arith) (omega arith))
      (votes.once (i - 1) i h.former h.later (let s = h.some in omega arith) h.former_is h.later_is like.verifier)
    where
      lesser : h.former.place ≤ h.later.place → (h.former.place ≡ h.later.place → ⊥) → h.former.place < h.later.place
      lesser le ne = omega arith

  vote_is : (v p o : ℕ) (w : Vote) (b : Ballot) → IsVoteOf t b → b.verifier ≡ v → b.place ≡ p →
      slice_get (votes_at t v) p ≡ Some (o, w) → (w.seq ≡ b.seq) × (w.view ≡ b.view)
  vote_is v p o w b is same here got =
      let there : slice_get (votes_of t v) p ≡ Some is.vote = sym (λ k. slice_get (votes_of t (same k)) (here k)) ∙
      is.there in
      let both : Some is.vote ≡ Some w = sym there ∙ vote_got t v p o w got in
      let equal : w ≡ is.vote = cc in
      (ap (λ (x : Vote). x.seq) equal ∙ is.seq, ap (λ (x : Vote). x.view) equal ∙ is.view)

  pub further_stands : (i : ℕ) (b : Ballot) (o : ℕ) (w : Vote) → FollowsAlike xs i → slice_get xs i ≡ Some b →
      slice_get (votes_at t b.verifier) b.place ≡ Some (o, w) → StandsInVotes code.TwoVotes t o
  further_stands i b o w h got at =
      let v = b.verifier in
      let ws = votes_at t v in
      let like = alike_is h.former h.later h.alike in
      let same = same_ballot i h.later b h.later_is got in
      let of_former = votes.each (i - 1) h.former h.former_is in
      let of_later = votes.each i b got in
      let before : h.former.place < b.place = subst (λ (x : Ballot). h.former.place < x.place) same
      (former_before i h) in
      let verifier : h.former.verifier ≡ v = like.verifier ∙ ap (λ (x : Ballot). x.verifier) same in
      let there : h.former.place < length ws = (let lt = slice_get_within ws b.place (o, w) at in omega arith) in
      let u = get_or ws h.former.place (o, w) in
      let got_u : slice_get ws h.former.place ≡ Some u = slice_get-get_or ws h.former.place (o, w) there in
      let its = vote_is v h.former.place u.0 u.1 h.former of_former verifier refl got_u in
      let mine = vote_is v b.place o w b of_later refl refl at in
      let seq : u.1.seq ≡ w.seq = its.0 ∙ like.seq ∙ ap (λ (x : Ballot). x.seq) same ∙ sym mine.0 in
      let view : u.1.view ≡ w.view = its.1 ∙ like.view ∙ ap (λ (x : Ballot). x.view) same ∙ sym mine.1 in
      let on : is_vote_on w.seq w.view u.1 ≡ true = and_from (u.1.seq == w.seq) (u.1.view == w.view)
      (eq-eqb u.1.seq w.seq seq) (eq-eqb u.1.view w.view view) in (
        v,
        place_at (λ before x. (x.0 ≡ o) × IsFurther before x) ws b.place (o, w) at (
          refl,
          any_before (λ x. is_vote_on w.seq w.view x.1) ws h.former.place b.place u before got_u on,
        ),
      )

  -- each further vote follows
  pub further_follows : (v at : ℕ) → SomePlace (votes_at t v) (λ before w. (w.0 ≡ at) × IsFurther before w)
      → (j : ℕ) × (b : Ballot) × (w : Vote) × FollowsAlike xs j × (slice_get xs j ≡ Some b) ×
      (slice_get (votes_at t b.verifier) b.place ≡ Some (at, w))
  further_follows v at s =
      let ws = votes_at t v in
      let p = length s.before in
      let w = s.item.1 in
      let got : slice_get ws p ≡ Some s.item = get_place ws s in
      let found = found_any (λ u. is_vote_on w.seq w.view u.1) s.before s.holds.1 in
      let q = found.0 in
      let u = found.1 in
      let early = slice_get_within s.before q u found.2 in
      let got_u : slice_get ws q ≡ Some u = ap (λ (zs : List (ℕ × Vote)). slice_get zs q) s.is ∙
      get_in_prefix s.before (s.item ∷ s.rest) q u found.2 in
      let on = voted w.seq w.view u.1 found.3 in
      let mine = votes.all v p w (vote_got t v p s.item.0 w got) in
      let its = votes.all v q u.1 (vote_got t v q u.0 u.1 got_u) in
      let like : Alike (ballot v q u.1) (ballot v p w) = record { seq = on.0; view = on.1; verifier = refl } in
      let at_is : slice_get ws p ≡ Some (at, w) = got ∙ ap (λ (o : ℕ). Some (o, w)) s.holds.0 in (
        mine.0,
        ballot v p w,
        w,
        later_follows its.0 mine.0 (ballot v q u.1) (ballot v p w)
            (ahead p q w u.1 its.0 mine.0 its.1 mine.1 early like (cases_lt its.0 mine.0)) its.1 mine.1 like,
        mine.1,
        at_is,
      )
    where
      ahead : (p q : ℕ) (w u : Vote) (i j : ℕ) → slice_get xs i ≡ Some (ballot v q u) →
          slice_get xs j ≡ Some (ballot v p w) → q < p → Alike (ballot v q u) (ballot v p w)
          → (i < j) ⊎ (j ≤ i) → i < j
      ahead p q w u i j e f early like (inl less) = less
      ahead p q w u i j e f early like (inr ge) = absurd (by (cases_lt j i))
        where
          by : (j < i) ⊎ (i ≤ j) → ⊥
          by (inl less) =
              let le = votes.order j i (ballot v p w) (ballot v q u) less f e in
              let a = like.seq in
              let b = like.view in
              let last = le.place (omega arith) (omega arith) (omega arith) in
              omega arith
          by (inr le) =
              let same : i ≡ j = omega arith in
              let equal = same_ballot j (ballot v q u) (ballot v p w) (ap (slice_get xs) (sym same) ∙ e) f in
              let places : q ≡ p = ap (λ (x : Ballot). x.place) equal in
              omega arith

  -- ---- an only vote

  pub only_is : (i : ℕ) (b : Ballot) → slice_get xs i ≡ Some b → (FollowsAlike xs i → ⊥) → (FollowsAlike xs (i + 1) → ⊥)
      →
      IsOnly t b
  only_is i b got first last =
      let is = votes.each i b got in
      record {
        vote = is.vote;
        there = is.there;
        only = one_passes (is_vote_on b.seq b.view) (votes_of t b.verifier) b.place is.vote is.there
            (on_ballot is.vote b is.seq is.view) (λ q y got_y on. (
            let decoded = voted b.seq b.view y on in
            let its = votes.all b.verifier q y got_y in
            let c = ballot b.verifier q y in
            let like : Alike c b = record { seq = decoded.0; view = decoded.1; verifier = refl } in
            let back : Alike b c = record { seq = sym decoded.0; view = sym decoded.1; verifier = refl } in
            elim (cases_lt its.0 i) [
              | inl less ↦ absurd (first (later_follows its.0 i c b less its.1 got like))
              | inr ge ↦ elim (cases_lt i its.0) [
                | inl more ↦ absurd (last (next_follows i its.0 b c more got its.1 back))
                | inr le ↦ (let same : its.0 ≡ i = omega arith in ap (λ (x : Ballot). x.place)
                    (same_ballot i c b (ap (slice_get xs) (sym same) ∙ its.1) got))
              ]
            ]));
      }

  -- where a verifier has an only vote, it stands where none follows
  pub only_place : (n view v : ℕ) (w : Vote) → filter (is_vote_on n view) (votes_of t v) ≡ w ∷ []
      → (k : ℕ) × (b : Ballot) × (slice_get xs k ≡ Some b) × (b.seq ≡ n) × (b.view ≡ view) × (b.verifier ≡ v) ×
      (FollowsAlike xs k → ⊥) × (FollowsAlike xs (k + 1) → ⊥)
  only_place n view v w one =
      let found = passing_place (is_vote_on n view) (votes_of t v) w one in
      let p = found.0 in
      let decoded = voted n view w found.2 in
      let mine = votes.all v p w found.1 in (
        mine.0,
        ballot v p w,
        mine.1,
        decoded.0,
        decoded.1,
        refl,
        λ h. (let same = same_ballot mine.0 h.later (ballot v p w) h.later_is mine.1 in
            let like = alike_is h.former h.later h.alike in
            alone p h.former (mine.0 - 1) h.former_is found.1 found.2
            (like.seq ∙ ap (λ (x : Ballot). x.seq) same ∙ decoded.0) (like.view ∙ ap (λ (x : Ballot). x.view) same ∙
            decoded.1) (like.verifier ∙ ap (λ (x : Ballot). x.verifier) same)
            (λ here. (let early = former_before mine.0 h in let place = ap (λ (x : Ballot). x.place) same in
            omega arith))),
        λ h. (let less : mine.0 + 1 - 1 ≡ mine.0 = omega arith in
            let same = same_ballot mine.0 h.former (ballot v p w) (ap (slice_get xs) (sym less) ∙ h.former_is) mine.1 in
            let like = alike_is h.former h.later h.alike in
            alone p h.later (mine.0 + 1) h.later_is found.1 found.2
            (sym like.seq ∙ ap (λ (x : Ballot). x.seq) same ∙ decoded.0) (sym like.view ∙
            ap (λ (x : Ballot). x.view) same ∙ decoded.1) (sym like.verifier ∙ ap (λ (x : Ballot). x.verifier) same)
            (λ here. (let early = former_before (mine.0 + 1) h in let place = ap (λ (x : Ballot). x.place) same in
            omega arith))),
      )
    where
      alone : (p : ℕ) (c : Ballot) (k : ℕ) → slice_get xs k ≡ Some c → slice_get (votes_of t v) p ≡ Some w →
          is_vote_on n view w ≡ true
          → c.seq ≡ n → c.view ≡ view → c.verifier ≡ v → (c.place ≡ p → ⊥) → ⊥
      alone p c k got here on seq view_is verifier apart =
          let is = votes.each k c got in
          let there : slice_get (votes_of t v) c.place ≡ Some is.vote = ap (λ (u : ℕ). slice_get (votes_of t u) c.place)
          (sym verifier) ∙ is.there in
          let also : is_vote_on n view is.vote ≡ true =
          and_from (is.vote.seq == n) (is.vote.view == view) (eq-eqb is.vote.seq n (is.seq ∙
          seq)) (eq-eqb is.vote.view view (is.view ∙ view_is)) in
          apart (same_place (is_vote_on n view) (votes_of t v) w one c.place p is.vote w there also here on)

  -- ---- one after another

  pub sifted_further : (i : ℕ) (only : List Ballot) (least : Option ℕ) (b : Ballot) (o : ℕ) (w : Vote) →
      Sifted t xs i only least → FollowsAlike xs i → slice_get xs i ≡ Some b
      → slice_get (votes_at t b.verifier) b.place ≡ Some (o, w) → Sifted t xs (i + 1) only (lower least o)
  sifted_further i only least b o w sifted h got at = record {
    stands = lower_stands (StandsInVotes code.TwoVotes t) least o sifted.stands (further_stands i b o w h got at);
    below = λ k c q x less f got_c at_c. elim (cases_lt k i) [
      | inl lt ↦ lower_lowers least o q (sifted.below k c q x lt f got_c at_c)
      | inr ge ↦ (
          let same : k ≡ i = omega arith in
          let equal = same_ballot i c b (ap (slice_get xs) (sym same) ∙ got_c) got in
          let here : slice_get (votes_at t b.verifier) b.place ≡ Some (
            q,
            x,
          ) = ap (λ (y : Ballot). slice_get (votes_at t y.verifier) y.place) (sym equal) ∙ at_c in
          let firsts : Some o ≡ Some q = ap (λ (m : Option (ℕ × Vote)). option_map (λ (x : ℕ ×
          Vote). x.0) m) (sym at ∙ here) in
          let offsets : o ≡ q = cc in
          subst (IsBelow (lower least o)) offsets (lower_at least o))
    ];
    each = sifted.each;
    behind = λ j a k c e ge f. sifted.behind j a k c e (omega arith) f;
    order = sifted.order;
    all = λ k c less got_c first last. elim (cases_lt k i) [
      | inl lt ↦ sifted.all k c lt got_c first last
      | inr ge ↦ (let same : i ≡ k = omega arith in absurd (first (subst (FollowsAlike xs) same h)))
    ];
  }

  pub sifted_past : (i : ℕ) (only : List Ballot) (least : Option ℕ) → Sifted t xs i only least → (FollowsAlike xs i → ⊥)
      →
      FollowsAlike xs (i + 1) → Sifted t xs (i + 1) only least
  sifted_past i only least sifted first h = record {
    stands = sifted.stands;
    below = λ k c q x less f got_c at_c. elim (cases_lt k i) [
      | inl lt ↦ sifted.below k c q x lt f got_c at_c
      | inr ge ↦ (let same : k ≡ i = omega arith in absurd (first (subst (FollowsAlike xs) same f)))
    ];
    each = sifted.each;
    behind = λ j a k c e ge f. sifted.behind j a k c e (omega arith) f;
    order = sifted.order;
    all = λ k c less got_c fresh last. elim (cases_lt k i) [
      | inl lt ↦ sifted.all k c lt got_c fresh last
      | inr ge ↦ (let same : i + 1 ≡ k + 1 = omega arith in absurd (last (subst (FollowsAlike xs) same h)))
    ];
  }

  pub sifted_only : (i : ℕ) (only : List Ballot) (least : Option ℕ) (b : Ballot) → Sifted t xs i only least →
      (FollowsAlike xs i → ⊥) → (FollowsAlike xs (i + 1) → ⊥) → slice_get xs i ≡ Some b
      → Sifted t xs (i + 1) (only ++ b ∷ []) least
  sifted_only i only least b sifted first last got = record {
    stands = sifted.stands;
    below = λ k c q x less f got_c at_c. elim (cases_lt k i) [
      | inl lt ↦ sifted.below k c q x lt f got_c at_c
      | inr ge ↦ (let same : k ≡ i = omega arith in absurd (first (subst (FollowsAlike xs) same f)))
    ];
    each = λ j c e. elim (last_one only b j c e) [
      | inl old ↦ sifted.each j c old
      | inr new ↦ subst (IsOnly t) (sym new.1) (only_is i b got first last)
    ];
    behind = λ j a k c e ge f. elim (last_one only b j a e) [
      | inl old ↦ sifted.behind j a k c old (omega arith) f
      | inr new ↦ subst (λ (x : Ballot). IsBefore x c) (sym new.1)
          (strict b c (votes.order i k b c (omega arith) got f)
          (λ like. last (next_follows i k b c (omega arith) got f like)))
    ];
    order = λ j k a c less e f. elim (last_one only b k c f) [
      | inl old ↦ elim (last_one only b j a e) [
        | inl older ↦ sifted.order j k a c less older old
        | inr new ↦ absurd (let lt = slice_get_within only k c old in let at = new.0 in omega arith)
      ]
      | inr new ↦ elim (last_one only b j a e) [
        | inl older ↦ subst (IsBefore a) (sym new.1) (sifted.behind j a i b older (omega arith) got)
        | inr also ↦ absurd (let at = new.0 in let there = also.0 in omega arith)
      ]
    ];
    all = λ k c less got_c fresh ends. elim (cases_lt k i) [
      | inl lt ↦ (let found = sifted.all k c lt got_c fresh ends in
          (found.0, get_in_prefix only (b ∷ []) found.0 c found.1))
      | inr ge ↦ (
          let same : k ≡ i = omega arith in
          let equal = same_ballot i c b (ap (slice_get xs) (sym same) ∙ got_c) got in
          (length only, get_between only b [] ∙ ap (λ (x : Ballot). Some x) (sym equal)))
    ];
  }

  pub sifted_cast : (i : ℕ) (only : List Ballot) (least : Option ℕ) → length xs ≤ i → Sifted t xs i only least →
      HasCast t only
  sifted_cast i only least past sifted = record {
    each = sifted.each;
    all = λ n view v w one. (
        let found = only_place n view v w one in
        let lt = slice_get_within xs found.0 found.1 found.2 in
        let taken = sifted.all found.0 found.1 (omega arith) found.2 found.6 found.7 in
        (taken.0, found.1, taken.1, found.3, found.4, found.5));
    order = sifted.order;
  }

  pub sifted_lowest : (i : ℕ) (only : List Ballot) (least : Option ℕ) → length xs ≤ i → Sifted t xs i only least →
      IsLowest (StandsInVotes code.TwoVotes t) least
  sifted_lowest i only least past sifted = record {
    stands = sifted.stands;
    below = λ at s. (
        let found = further_follows s.0 at s.1 in
        let lt = slice_get_within xs found.0 found.1 found.4 in
        sifted.below found.0 found.1 at found.2 (omega arith) found.3 found.4 found.5);
  }
