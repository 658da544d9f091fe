-- What is found among the records of the settled attempts is what is said of records.
use Rattle.std.proofs.Common.{◌≡◌, ℕ, zero, suc, ◌+◌, ◌-◌, ◌≤◌, Bool, true, false, cond, List, [], ◌∷◌, ◌++◌, map}
use Rattle.std.proofs.Common.{length, slice_get, slice_index_or, Option, Some, None, refl, sym, subst, ap, ◌∙◌, inl}
use Rattle.std.proofs.Common.{inr, ◌⊎◌, arith}
use Rattle.std.proofs.lemmas.Bool.{cases_lt, cond-true, false≢true}
use Rattle.std.proofs.lemmas.List.{length-map}
use Rattle.std.proofs.Math.ListN.{get_or-map}
use mathlib.Core.Path.{fun_ext}
use Rattle.std.specs.List.{AllByRecursion}
use Rattle.std.proofs.lemmas.Option.{same_Some}
use Rattle.eve_smallbank.specs.declared.request.Request as shown
use Rattle.eve_smallbank.specs.declared.request.Reply.TheVariants.{Done}
use Rattle.eve_smallbank.specs.SmallBank.{Request, plain}
use Rattle.eve_smallbank.specs.Access.{Executed, Fits}
use Rattle.eve_smallbank.proofs.Members.{In, here, there, all_in, all_from_in, in_prefix, in_cons}
use Rattle.eve_grammar.specs.Trace.{Access, Asked, Attempt, Batch, Trace, no_request}
use Rattle.eve_grammar.specs.Frames.{OfAttempt, without_accesses}
use Rattle.eve_grammar.specs.Limits.{HasLimits}
use Rattle.eve_grammar.specs.Spelling.{frame_text, batches_at, steps_at, accesses_at}
use Rattle.eve_views.specs.Code.{code_number}
use Rattle.eve_views.specs.Form.{IsUpTo, SomePlace, IsLeast, IsFaultIn}
use Rattle.eve_views.specs.declared.fault.Code.{Code}
use Rattle.eve_views.specs.declared.fault.Code.TheVariants as code
use Rattle.eve_views.specs.declared.fault.Fault.{Fault}
use Rattle.eve_history.specs.declared.fate.Fate.{Fate}
use Rattle.eve_history.specs.declared.fate.Fate.TheVariants.{Committed, Discarded, Open}
use Rattle.eve_history.specs.Section.{Placed, settled, batch_at, request_count}
use Rattle.eve_history.specs.Fates.{fates_from}
use Rattle.eve_history.specs.SectionHistory.{ExecutedAttempt, executed_attempt, SectionHistory, ordered}
use Rattle.eve_history.specs.SectionHistory.{attempts_among, section_history, history}
use Rattle.eve_history.specs.SectionHistory.{IsRightSection, names_of, placed_at, picked, is_committed, is_discarded}
use Rattle.eve_history.proofs.Lookups.{batch_is}
use Rattle.eve_chains.specs.Records.{recorded, is_settled, recorded_of, records_along, records_if_settled, HasRequests}
use Rattle.eve_chains.specs.Records.{settled_records, records_between, IsLeastMismatch}
use Rattle.eve_chains.specs.Visible.{executed_by}
use Rattle.eve_chains.specs.Sound.{RecordsFit}
use Rattle.eve_chains.specs.Faults.{StandsInRecords}
use Rattle.eve_chains.proofs.Distinct.{in_map, in_source, in_right, in_split}
use Rattle.eve_chains.proofs.LeftByRecords.{right_one, complete_one}
use Rattle.eve_chains.proofs.Faultless.{in_place, place_of}
use Rattle.eve_chains.proofs.LinkedPaths.{none≢some}
use Rattle.eve_chains.proofs.Stretches.{all_between}
use Rattle.eve_chains.proofs.Attempts.{located_in, in_ordered, from_ordered, ordered_below, batch_there, as_settled}
use Rattle.eve_chains.proofs.Attempts.{from_settled, in_picked}

-- ---- records and attempts by their fates

abbrev IsPicked : List (ℕ × Attempt) → List Fate → ℕ × Attempt → Type 0
IsPicked xs fates x = In x (picked is_committed xs fates) ⊎ In x (picked is_discarded xs fates)

committed_settled : (fate : Fate) → is_committed fate ≡ true → is_settled fate ≡ true
committed_settled Committed e = refl
committed_settled Discarded e = refl
committed_settled Open e = e

discarded_settled : (fate : Fate) → is_discarded fate ≡ true → is_settled fate ≡ true
discarded_settled Committed e = refl
discarded_settled Discarded e = refl
discarded_settled Open e = e

records_there : (t : Trace) (test : Fate → Bool) (only : (f : Fate) → test f ≡ true → is_settled f ≡ true)
    (xs : List (ℕ × Attempt)) (fates : List Fate) {y : ℕ × Attempt} {z : ℕ × Executed}
    → In y (picked test xs fates) → In z (records_along t (executed_attempt y))
    → In z (settled_records t (map executed_attempt xs) fates)
records_there t test only [] fates i j = elim i [ ]
records_there t test only (x ∷ xs) [] i j = elim i [ ]
records_there t test only (x ∷ xs) (f ∷ fates) {y} {z} i j =
    by (test f) refl (λ k. records_there t test only xs fates k j) i
  where
    own : test f ≡ true → y ≡ x
        → In z (records_if_settled t (executed_attempt x) f ++ settled_records t (map executed_attempt xs) fates)
    own passes e =
        in_prefix (settled_records t (map executed_attempt xs) fates)
        (subst (λ (zs : List (ℕ × Executed)). In z zs)
        (sym (cond-true (is_settled f) (records_along t (executed_attempt x)) [] (only f passes)))
        (subst (λ (w : ℕ × Attempt). In z (records_along t (executed_attempt w))) e j))

    by : (b : Bool) → test f ≡ b
        → (In y (picked test xs fates) → In z (settled_records t (map executed_attempt xs) fates))
        → In y (cond b (x ∷ picked test xs fates) (picked test xs fates))
        → In z (records_if_settled t (executed_attempt x) f ++ settled_records t (map executed_attempt xs) fates)
    by true passes rest k = elim (in_cons (picked test xs fates) k) [
      | inl e ↦ own passes e
      | inr m ↦ in_right (records_if_settled t (executed_attempt x) f)
          (settled_records t (map executed_attempt xs) fates) (rest m)
    ]
    by false fails rest k = in_right (records_if_settled t (executed_attempt x) f)
        (settled_records t (map executed_attempt xs) fates) (rest k)

-- of an attempt one later
later : (test : Fate → Bool) (x y : ℕ × Attempt) (xs : List (ℕ × Attempt)) (f : Fate) (fates : List Fate)
    → In y (picked test xs fates) → In y (picked test (x ∷ xs) (f ∷ fates))
later test x y xs f fates i = by (test f)
  where
    by : (b : Bool) → In y (cond b (x ∷ picked test xs fates) (picked test xs fates))
    by true = there i
    by false = i

later_picked : (x y : ℕ × Attempt) (xs : List (ℕ × Attempt)) (f : Fate) (fates : List Fate) → IsPicked xs fates y
    → IsPicked (x ∷ xs) (f ∷ fates) y
later_picked x y xs f fates (inl i) = inl (later is_committed x y xs f fates i)
later_picked x y xs f fates (inr i) = inr (later is_discarded x y xs f fates i)

-- the attempt that a record is of
record Whose (t : Trace) (xs : List (ℕ × Attempt)) (fates : List Fate) (z : ℕ × Executed) : Type 0 where
  item : ℕ × Attempt
  picks : IsPicked xs fates item
  within : In z (records_along t (executed_attempt item))

whose_later : (t : Trace) (x : ℕ × Attempt) (xs : List (ℕ × Attempt)) (f : Fate) (fates : List Fate) (z : ℕ × Executed)
    → Whose t xs fates z → Whose t (x ∷ xs) (f ∷ fates) z
whose_later t x xs f fates z w =
    record { item = w.item; picks = later_picked x w.item xs f fates w.picks; within = w.within }

whose : (t : Trace) (xs : List (ℕ × Attempt)) (fates : List Fate) (z : ℕ × Executed)
    → In z (settled_records t (map executed_attempt xs) fates) → Whose t xs fates z
whose t [] fates z i = elim i [ ]
whose t (x ∷ xs) [] z i = elim i [ ]
whose t (x ∷ xs) (Committed ∷ fates) z i =
    elim (in_split (records_along t (executed_attempt x)) (settled_records t (map executed_attempt xs) fates) i) [
      | inl j ↦ record { item = x; picks = inl here; within = j }
      | inr j ↦ whose_later t x xs Committed fates z (whose t xs fates z j)
    ]
whose t (x ∷ xs) (Discarded ∷ fates) z i =
    elim (in_split (records_along t (executed_attempt x)) (settled_records t (map executed_attempt xs) fates) i) [
      | inl j ↦ record { item = x; picks = inr here; within = j }
      | inr j ↦ whose_later t x xs Discarded fates z (whose t xs fates z j)
    ]
whose t (x ∷ xs) (Open ∷ fates) z i = whose_later t x xs Open fates z (whose t xs fates z i)

-- the attempt at a place
record PickedAt (xs : List (ℕ × Attempt)) (fates : List Fate) (r : ExecutedAttempt) : Type 0 where
  item : ℕ × Attempt
  is : r ≡ executed_attempt item
  picks : IsPicked xs fates item

picked_at : (xs : List (ℕ × Attempt)) (fates : List Fate) (i : ℕ) (r : ExecutedAttempt) (fate : Fate)
    → slice_get (map executed_attempt xs) i
    ≡ Some r → slice_get fates i ≡ Some fate → is_settled fate ≡ true
    → PickedAt xs fates r
picked_at [] fates i r fate at its settled = none≢some r at
picked_at (x ∷ xs) [] i r fate at its settled = none≢some fate its
picked_at (x ∷ xs) (Committed ∷ fates) zero r fate at its settled =
    record { item = x; is = sym (same_Some (executed_attempt x) r at); picks = inl here }
picked_at (x ∷ xs) (Discarded ∷ fates) zero r fate at its settled =
    record { item = x; is = sym (same_Some (executed_attempt x) r at); picks = inr here }
picked_at (x ∷ xs) (Open ∷ fates) zero r fate at its settled =
    absurd (false≢true (ap is_settled (same_Some Open fate its) ∙ settled))
picked_at (x ∷ xs) (f ∷ fates) (suc i) r fate at its settled =
    let p = picked_at xs fates i r fate at its settled in
    record { item = p.item; is = p.is; picks = later_picked x p.item xs f fates p.picks }

-- ---- what a settled attempt has

-- its batch is there, with the requests of its records
pub record IsReady (t : Trace) (r : ExecutedAttempt) : Type 0 where
  pub from_one : 1 ≤ r.attempt.seq
  pub there_is : r.attempt.seq ≤ length t.batches
  pub requests : HasRequests (request_count t r.attempt) r

-- the records that are judged in replica e's section
unfoldable pub judged_of : Trace → ℕ → List (ℕ × Executed)
judged_of t e = settled_records t (map executed_attempt (attempts_among (steps_at t e))) (fates_from 0 (steps_at t e))

-- they are those of what is told
pub judged_all : (t : Trace) (e : ℕ) → settled_records t (section_history t e).attempts (section_history t e).fates
    ≡ judged_of t e
unfolding section_history judged_of
judged_all t e = refl

-- a fault of records in replica e's section at this offset
abbrev pub record_fault : ℕ → ℕ → Fault
record_fault e at = record { code = code.Record; offset = at; replica = Some e }

-- ---- the requests of a batch as they were read

module _ (t : Trace) (r : ExecutedAttempt) (n : ℕ) (b : ℕ × (ℕ × Batch)) (requests : List shown.Request)
    (batch : slice_get (batches_at t) (n - 1) ≡ Some b) (number : n ≡ r.attempt.seq)
    (read : map plain requests ≡ map (λ a. a.request) b.1.1.requests) where
  its_batch : b.1.1 ≡ batch_at t r.attempt.seq
  its_batch = sym (batch_is t n b batch) ∙ ap (batch_at t) number

  pub as_many : request_count t r.attempt ≡ length requests
  as_many =
      ap (λ (c : Batch). length c.requests) (sym its_batch) ∙ sym (length-map b.1.1.requests (λ (a : Asked). a.request))
      ∙ ap length (sym read) ∙ length-map requests plain

  own_requests : map plain requests ≡ map (λ a. a.request) (batch_at t r.attempt.seq).requests
  own_requests = read ∙ ap (λ (c : Batch). map (λ a. a.request) c.requests) its_batch

  pub as_recorded : map (recorded_of (map plain requests) r.attempt.replies) r.ordered ≡ records_along t r
  as_recorded =
      ap (λ (asked : List Request). map (recorded_of asked r.attempt.replies) r.ordered) own_requests
      ∙ ap (λ (f : ℕ × Access → ℕ × Executed). map f r.ordered) (fun_ext (λ x i. (
        x.0,
        recorded (get_or-map (λ (a : Asked). a.request) (batch_at t r.attempt.seq).requests x.1.index no_request i)
            (slice_index_or r.attempt.replies x.1.index Done) x.1.entries,
      )))

module _ (t : Trace) (e : ℕ) (limits : HasLimits t) (right : IsRightSection t e) where
  ready_placed : (p : Placed) → In p (settled (history t e)) → In (placed_at p) (attempts_among (steps_at t e))
      → IsReady t (executed_attempt (placed_at p))
  ready_placed p i member =
      let own = right_one t e p right i in
      let batch = batch_there t e right (placed_at p) member in
      record {
        from_one = batch.0;
        there_is = batch.1;
        requests = record { as_many = own.indexes; there = ordered_below t p own (complete_one t e p limits i) };
      }

  pub ready_at : (i : ℕ) (r : ExecutedAttempt) (fate : Fate) → slice_get (section_history t e).attempts i ≡ Some r
      → slice_get (section_history t e).fates i ≡ Some fate → is_settled fate ≡ true → IsReady t r
  unfolding section_history
  ready_at i r fate at its passes =
      let q = picked_at (attempts_among (steps_at t e)) (fates_from 0 (steps_at t e)) i r fate at its passes in
      let s = as_settled t e q.item q.picks in
      subst (IsReady t) (sym (q.is ∙ ap executed_attempt s.is))
      (ready_placed s.placed s.there_is
      (subst (λ (x : ℕ × Attempt). In x (attempts_among (steps_at t e))) s.is (member q.picks)))
    where
      member : {x : ℕ × Attempt} → IsPicked (attempts_among (steps_at t e)) (fates_from 0 (steps_at t e)) x
          → In x (attempts_among (steps_at t e))
      member (inl k) = in_picked is_committed (attempts_among (steps_at t e)) (fates_from 0 (steps_at t e)) k
      member (inr k) = in_picked is_discarded (attempts_among (steps_at t e)) (fates_from 0 (steps_at t e)) k

  -- as a history tells it
  pub ready_told : (h : SectionHistory) (i : ℕ) (r : ExecutedAttempt) (fate : Fate) → h ≡ section_history t e
      → slice_get h.attempts i ≡ Some r
      → slice_get h.fates i ≡ Some fate → is_settled fate ≡ true → IsReady t r
  ready_told h i r fate is at its passes =
      ready_at i r fate (ap (λ (k : SectionHistory). slice_get k.attempts i) (sym is) ∙ at)
      (ap (λ (k : SectionHistory). slice_get k.fates i) (sym is) ∙ its) passes

  -- each record of a settled attempt is judged
  judged_there : (p : Placed) → In p (settled (history t e)) → (x : ℕ × Access) → In x (accesses_at p.offset p.attempt)
      → In (x.0, executed_by t p.attempt x.1) (judged_of t e)
  unfolding judged_of
  judged_there p i x j =
      let k = in_ordered t p (right_one t e p right i) x j in
      by (from_settled t e p i) (in_map (λ (y : ℕ × Access). (y.0, executed_by t (without_accesses p.attempt) y.1))
      (ordered p.offset p.attempt) k)
    where
      by : {z : ℕ × Executed} → IsPicked (attempts_among (steps_at t e)) (fates_from 0 (steps_at t e)) (placed_at p)
          → In z (records_along t (executed_attempt (placed_at p)))
          → In z (settled_records t (map executed_attempt (attempts_among (steps_at t e)))
          (fates_from 0 (steps_at t e)))
      by (inl a) m = records_there t is_committed committed_settled (attempts_among (steps_at t e))
          (fates_from 0 (steps_at t e)) a m
      by (inr a) m = records_there t is_discarded discarded_settled (attempts_among (steps_at t e))
          (fates_from 0 (steps_at t e)) a m

  -- the access frame of a record that is judged
  record Judged (z : ℕ × Executed) : Type 0 where
    placed : Placed
    there_is : In placed (settled (history t e))
    access : ℕ × Access
    within : In access (accesses_at placed.offset placed.attempt)
    is : z ≡ (access.0, executed_by t placed.attempt access.1)

  judged_from : (z : ℕ × Executed) → In z (judged_of t e) → Judged z
  unfolding judged_of
  judged_from z i =
      let w = whose t (attempts_among (steps_at t e)) (fates_from 0 (steps_at t e)) z i in
      let s = as_settled t e w.item w.picks in
      let own : In z (records_along t (executed_attempt (placed_at s.placed))) =
      subst (λ (x : ℕ × Attempt). In z (records_along t (executed_attempt x))) s.is w.within in
      let x = in_source (λ (y : ℕ × Access). (y.0, executed_by t (without_accesses s.placed.attempt) y.1))
      (ordered s.placed.offset s.placed.attempt) own in
      record {
        placed = s.placed;
        there_is = s.there_is;
        access = x.item;
        within = from_ordered t s.placed (right_one t e s.placed right s.there_is)
            (complete_one t e s.placed limits s.there_is) x.item x.there_is;
        is = x.is;
      }

  -- ---- faults

  -- where a record that is judged doesn't fit there is a fault
  fault_there : (at : ℕ) → SomePlace (judged_of t e) (λ _ z. (z.0 ≡ at) × ¬ Fits (names_of t) z.1)
      → IsFaultIn StandsInRecords t e (record_fault e at)
  fault_there at place =
      let j = judged_from place.item (in_place (judged_of t e) place) in
      let holds : (j.access.0 ≡ at) × ¬ Fits (names_of t) (executed_by t j.placed.attempt j.access.1) =
      subst (λ (z : ℕ × Executed). (z.0 ≡ at) × ¬ Fits (names_of t) z.1) j.is place.holds in
      record {
        stands = place_of (λ p. SomePlace (accesses_at p.offset p.attempt)
            (λ _ x. (x.0 ≡ at) × ¬ Fits (names_of t) (executed_by t p.attempt x.1))) (settled (history t e)) j.there_is
            (place_of (λ x. (x.0 ≡ at) × ¬ Fits (names_of t) (executed_by t j.placed.attempt x.1))
            (accesses_at j.placed.offset j.placed.attempt) j.within holds);
        inside = refl;
      }

  -- and where there is a fault one doesn't fit
  record MismatchAt (f : Fault) : Type 0 where
    record_is : ℕ × Executed
    there_is : In record_is (judged_of t e)
    at_is : record_is.0 ≡ f.offset
    mismatch : ¬ Fits (names_of t) record_is.1
    number : code_number code.Record ≤ code_number f.code

  mismatch_at : (f : Fault) → IsFaultIn StandsInRecords t e f → MismatchAt f
  mismatch_at f is = by f.code is.stands refl
    where
      by : (c : Code) → StandsInRecords c t e f.offset → f.code ≡ c → MismatchAt f
      by code.Record stands same =
          let p = stands.item in
          let i = in_place (settled (history t e)) stands in
          let x = stands.holds.item in
          let number : code_number f.code ≡ code_number code.Record = ap code_number same in
          record {
            record_is = (x.0, executed_by t p.attempt x.1);
            there_is = judged_there p i x (in_place (accesses_at p.offset p.attempt) stands.holds);
            at_is = stands.holds.holds.0;
            mismatch = stands.holds.holds.1;
            number = omega arith;
          }
      by _ stands same = absurd stands

  -- ---- what is found

  pub all_fit : IsLeastMismatch (names_of t) (judged_of t e) None → RecordsFit t e
  all_fit all =
      all_from_in (λ p. AllByRecursion (λ x. Fits (names_of t) (executed_by t p.attempt x)) p.attempt.accesses)
      (settled (history t e)) (λ p i.
      all_from_in (λ x. Fits (names_of t) (executed_by t p.attempt x)) p.attempt.accesses (λ x j.
      let o = located_in (p.offset + length (frame_text (OfAttempt p.attempt))) p.attempt.accesses j in
      all_in (λ (z : ℕ × Executed). Fits (names_of t) z.1) all (judged_there p i (o.0, x) o.1)))

  pub no_fault : IsLeastMismatch (names_of t) (judged_of t e) None → (f : Fault) → ¬ IsFaultIn StandsInRecords t e f
  no_fault all f is =
      let u = mismatch_at f is in
      u.mismatch (all_in (λ (z : ℕ × Executed). Fits (names_of t) z.1) all u.there_is)

  pub least_fault : (at : ℕ) → IsLeastMismatch (names_of t) (judged_of t e) (Some at)
      → IsLeast (IsFaultIn StandsInRecords t e) (record_fault e at)
  least_fault at least = record {
    is = fault_there at least.0;
    least = λ g is.
        let u = mismatch_at g is in
        up_to g (all_in (λ (z : ℕ × Executed). ¬ Fits (names_of t) z.1 → at ≤ z.0) least.1 u.there_is u.mismatch)
        u.at_is
        u.number;
  }
    where
      up_to : (g : Fault) {n : ℕ} → at ≤ n → n ≡ g.offset → code_number code.Record ≤ code_number g.code
          → IsUpTo (record_fault e at) g
      up_to g {n} up same number = elim (cases_lt at g.offset) [
        | inl less ↦ inl less
        | inr more ↦ inr (omega arith, number)
      ]

-- ---- a history to its end

-- as a history tells it
pub as_told : (t : Trace) (h : SectionHistory) (o : Option ℕ) → h ≡ section_history t h.replica
    → IsLeastMismatch (names_of t) (records_between t h 0 (length h.attempts)) o
    → IsLeastMismatch (names_of t) (judged_of t h.replica) o
as_told t h o is found =
    subst (λ (xs : List (ℕ × Executed)). IsLeastMismatch (names_of t) xs o)
    (all_between (records_if_settled t) h.attempts h.fates ∙ ap
    (λ (k : SectionHistory). settled_records t k.attempts k.fates) is
    ∙ judged_all t h.replica) found
