-- Public: other crates cite these lemmas. An attempt's access records are those that its certificate lists, and a
-- settled attempt is one of those told.
use Rattle.std.proofs.Common.{◌≡◌, ℕ, ◌+◌, ◌<◌, ◌≤◌, ◌==◌, nat_le, Bool, true, false, cond, ◌&&◌, List, [], ◌∷◌, length}
use Rattle.std.proofs.Common.{refl, sym, subst, ap, ◌∙◌, inl, inr, ◌⊎◌, arith, IsTrue}
use Rattle.std.proofs.lemmas.Bool.{and_parts, eqb-true, leb-true, eq-eqb, ne_eqb, cond-true, cond-false}
use Rattle.std.specs.List.{AllByRecursion}
use Rattle.eve_smallbank.proofs.Members.{In, here, there, all_in, all_from_in, in_prefix, in_cons}
use Rattle.eve_grammar.specs.Trace.{Access, Attempt, Step, Attempts, Commits, RollsBack, Transfers, Trace}
use Rattle.eve_grammar.specs.Frames.{OfAccess, OfAttempt}
use Rattle.eve_grammar.specs.Spelling.{frame_text, located, steps_at, accesses_at}
use Rattle.eve_history.specs.declared.fate.Fate.{Fate}
use Rattle.eve_history.specs.Section.{attempts_by, Placed, SectionState, start, next, settled, request_count, is_due}
use Rattle.eve_history.specs.Section.{is_right_attempt, is_right_certificate, are_right_accesses, is_right, are_right}
use Rattle.eve_history.specs.Fates.{fates_from}
use Rattle.eve_history.specs.SectionHistory.{access_with, ordered, attempts_among, history, IsRightSection, placed_at}
use Rattle.eve_history.specs.SectionHistory.{picked}
use Rattle.eve_history.specs.SectionHistory.{is_committed, is_discarded}
use Rattle.eve_history.proofs.FateLaws.{committed_are_picked, discarded_are_picked}
use Rattle.eve_chains.proofs.Distinct.{Distinct, in_map, in_source, in_right, in_split}
use Rattle.eve_chains.proofs.Distinct.{below_permutation}
use Rattle.eve_chains.proofs.SettledAttempts.{IsRightAlone, IsComplete}
use Rattle.eve_chains.proofs.Soundness.{indexes_of, permutes, distinct_indexes, its_place, its_record}
use Rattle.eve_chains.proofs.Faultless.{in_located}

-- ---- the access records of one attempt

abbrev pub access_text : Access → List ℕ
access_text x = frame_text (OfAccess x)

-- the record of an index that stands among them
pub found_in : (at : ℕ) (xs : List Access) (x : ℕ × Access) → Distinct (indexes_of xs)
    → In x (located access_text at xs) → access_with (located access_text at xs) x.1.index ≡ x
found_in at [] x d i = elim i [ ]
found_in at (y ∷ xs) x d here = cond-true (y.index == y.index) (at, y) _ (eq-eqb y.index y.index refl)
found_in at (y ∷ xs) x d (there i) =
    cond-false (y.index == x.1.index) (at, y) _
    (ne_eqb y.index x.1.index (λ e. d.0 (subst (λ j. In j (indexes_of xs)) (sym e)
    (in_map (λ (z : Access). z.index) xs (in_located access_text (at + length (access_text y)) xs x i)))))
    ∙ found_in (at + length (access_text y)) xs x d.1 i

-- each has a place among the located ones
pub located_in : {y : Access} (at : ℕ) (xs : List Access) → In y xs → (o : ℕ) × In (o, y) (located access_text at xs)
located_in at [] i = elim i [ ]
located_in at (y ∷ xs) here = (at, here)
located_in at (x ∷ xs) (there i) = let rest = located_in (at + length (access_text x)) xs i in (rest.0, there rest.1)

module _ (t : Trace) (p : Placed) (right : IsRightAlone t p.attempt) where
  abbrev from : ℕ
  from = p.offset + length (frame_text (OfAttempt p.attempt))

  pub in_ordered : (x : ℕ × Access) → In x (accesses_at p.offset p.attempt) → In x (ordered p.offset p.attempt)
  in_ordered x i =
      subst (λ (y : ℕ × Access). In y (ordered p.offset p.attempt))
      (found_in from p.attempt.accesses x (distinct_indexes t p.attempt [] p.attempt.accesses right.accesses) i)
      (in_map (access_with (accesses_at p.offset p.attempt)) p.attempt.certificate
      (its_place t p right x.1 (in_located access_text from p.attempt.accesses x i)))

  -- the one of an index of the certificate
  its_access : IsComplete p.attempt → (i : ℕ) → In i p.attempt.certificate
      → In (access_with (accesses_at p.offset p.attempt) i) (accesses_at p.offset p.attempt)
      × ((access_with (accesses_at p.offset p.attempt) i).1.index ≡ i)
  its_access complete i member =
      let s = its_record t p right complete i member in
      let o = located_in from p.attempt.accesses s.there_is in
      let is : access_with (accesses_at p.offset p.attempt) i ≡ (o.0, s.item) =
      ap (access_with (accesses_at p.offset p.attempt)) s.is
      ∙ found_in from p.attempt.accesses (o.0, s.item)
      (distinct_indexes t p.attempt [] p.attempt.accesses right.accesses) o.1 in (
        subst (λ (x : ℕ × Access). In x (accesses_at p.offset p.attempt)) (sym is) o.1,
        ap (λ (x : ℕ × Access). x.1.index) is ∙ sym s.is,
      )

  pub from_ordered : IsComplete p.attempt → (x : ℕ × Access) → In x (ordered p.offset p.attempt)
      → In x (accesses_at p.offset p.attempt)
  from_ordered complete x i =
      let s = in_source (access_with (accesses_at p.offset p.attempt)) p.attempt.certificate i in
      subst (λ (y : ℕ × Access). In y (accesses_at p.offset p.attempt)) (sym s.is)
      (its_access complete s.item s.there_is).0

  pub ordered_below : IsComplete p.attempt → AllByRecursion (λ x. x.1.index < request_count t p.attempt)
      (ordered p.offset p.attempt)
  ordered_below complete =
      all_from_in (λ x. x.1.index < request_count t p.attempt) (ordered p.offset p.attempt) (λ x i.
      let s = in_source (access_with (accesses_at p.offset p.attempt)) p.attempt.certificate i in
      subst (λ (n : ℕ). n < request_count t p.attempt)
      (sym (ap (λ (y : ℕ × Access). y.1.index) s.is ∙ (its_access complete s.item s.there_is).1))
      (below_permutation (request_count t p.attempt) s.item p.attempt.certificate
      (permutes t p.attempt right.certificate) s.there_is))

-- ---- batches that are there

abbrev HasBatch : Trace → ℕ × Attempt → Type 0
HasBatch t x = (1 ≤ x.1.seq) × (x.1.seq ≤ length t.batches)

due_there : (t : Trace) (s : SectionState) (a : Attempt) → IsTrue (is_due t s a) → (1 ≤ a.seq)
    × (a.seq ≤ length t.batches)
due_there t s a due =
    let parts = and_parts (a.seq == s.last + 1 + length s.pending) _ due in (
      from_one (eqb-true a.seq (s.last + 1 + length s.pending) parts.0),
      leb-true a.seq (length t.batches)
          (and_parts (nat_le a.seq (length t.batches)) _ parts.1).0,
    )
  where
    from_one : a.seq ≡ s.last + 1 + length s.pending → 1 ≤ a.seq
    from_one e = omega arith

have_batches : (t : Trace) (s : SectionState) (steps : List (ℕ × Step)) → IsTrue (are_right t s steps)
    → AllByRecursion (HasBatch t) (attempts_among steps)
have_batches t s [] right = tt
have_batches t s ((at, Attempts a) ∷ steps) right =
    let parts = and_parts (is_right t s (Attempts a)) (are_right t (next s (at, Attempts a)) steps) right in
    let own = and_parts (is_right_attempt t s a) (is_right_certificate t a && are_right_accesses t a [] a.accesses)
    parts.0 in (
      due_there t s a (and_parts (is_due t s a) (length a.certificate == request_count t a) own.0).0,
      have_batches t (next s (at, Attempts a)) steps parts.1,
    )
have_batches t s ((at, Commits c) ∷ steps) right =
    have_batches t (next s (at, Commits c)) steps
    (and_parts (is_right t s (Commits c)) (are_right t (next s (at, Commits c)) steps) right).1
have_batches t s ((at, RollsBack r) ∷ steps) right =
    have_batches t (next s (at, RollsBack r)) steps
    (and_parts (is_right t s (RollsBack r)) (are_right t (next s (at, RollsBack r)) steps) right).1
have_batches t s ((at, Transfers x) ∷ steps) right =
    have_batches t (next s (at, Transfers x)) steps
    (and_parts (is_right t s (Transfers x)) (are_right t (next s (at, Transfers x)) steps) right).1

pub batch_there : (t : Trace) (e : ℕ) → IsRightSection t e → (x : ℕ × Attempt) → In x (attempts_among (steps_at t e))
    → (1 ≤ x.1.seq) × (x.1.seq ≤ length t.batches)
batch_there t e right x i = all_in (HasBatch t) (have_batches t start (steps_at t e) right) i

-- ---- attempts by their fates

-- the settled attempt of an attempt frame
pub record SettledAs (t : Trace) (e : ℕ) (x : ℕ × Attempt) : Type 0 where
  pub placed : Placed
  pub there_is : In placed (settled (history t e))
  pub is : x ≡ placed_at placed

pub as_settled : (t : Trace) (e : ℕ) (x : ℕ × Attempt)
    → In x (picked is_committed (attempts_among (steps_at t e)) (fates_from 0 (steps_at t e)))
    ⊎ In x (picked is_discarded (attempts_among (steps_at t e)) (fates_from 0 (steps_at t e)))
    → SettledAs t e x
as_settled t e x (inl i) =
    let s = in_source placed_at (attempts_by (history t e).ways_reached)
    (subst (λ (xs : List (ℕ × Attempt)). In x xs) (sym (committed_are_picked t e)) i) in
    record { placed = s.item; there_is = in_prefix (history t e).discarded s.there_is; is = s.is }
as_settled t e x (inr i) =
    let s = in_source placed_at (history t e).discarded
    (subst (λ (xs : List (ℕ × Attempt)). In x xs) (sym (discarded_are_picked t e)) i) in
    record {
      placed = s.item;
      there_is = in_right (attempts_by (history t e).ways_reached) (history t e).discarded s.there_is;
      is = s.is;
    }

pub from_settled : (t : Trace) (e : ℕ) (p : Placed) → In p (settled (history t e))
    → In (placed_at p) (picked is_committed (attempts_among (steps_at t e)) (fates_from 0 (steps_at t e)))
    ⊎ In (placed_at p) (picked is_discarded (attempts_among (steps_at t e)) (fates_from 0 (steps_at t e)))
from_settled t e p i =
    elim (in_split (attempts_by (history t e).ways_reached) (history t e).discarded i) [
      | inl j ↦ inl (subst (λ (xs : List (ℕ × Attempt)). In (placed_at p) xs) (committed_are_picked t e)
          (in_map placed_at (attempts_by (history t e).ways_reached) j))
      | inr j ↦ inr (subst (λ (xs : List (ℕ × Attempt)). In (placed_at p) xs) (discarded_are_picked t e)
          (in_map placed_at (history t e).discarded j))
    ]

-- one of those is told of
pub in_picked : {y : ℕ × Attempt} (test : Fate → Bool) (xs : List (ℕ × Attempt)) (fates : List Fate)
    → In y (picked test xs fates) → In y xs
in_picked test [] fates i = elim i [ ]
in_picked test (x ∷ xs) [] i = elim i [ ]
in_picked {y} test (x ∷ xs) (fate ∷ fates) i = by (test fate) (λ j. in_picked test xs fates j) i
  where
    by : (b : Bool) → (In y (picked test xs fates) → In y xs)
        → In y (cond b (x ∷ picked test xs fates) (picked test xs fates)) → In y (x ∷ xs)
    by true rest j = elim (in_cons (picked test xs fates) j) [
      | inl e ↦ subst (λ (w : ℕ × Attempt). In w (x ∷ xs)) (sym e) here
      | inr k ↦ there (rest k)
    ]
    by false rest j = there (rest j)

-- what holds of all holds of those
pub all_picked : (P : ℕ × Attempt → Type 0) (test : Fate → Bool) (xs : List (ℕ × Attempt)) (fates : List Fate)
    → AllByRecursion P xs → AllByRecursion P (picked test xs fates)
all_picked P test xs fates all =
    all_from_in P (picked test xs fates) (λ y i. all_in P all (in_picked test xs fates i))
