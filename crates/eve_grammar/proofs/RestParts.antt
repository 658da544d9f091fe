-- What the frames from a place up to the end make up, frame by frame: how much there is of it, what
-- belongs to no frame among them, the limits, and steps that the version has.
use Rattle.std.proofs.Common.{◌≡◌, ℕ, zero, suc, ◌+◌, ◌-◌, ◌<◌, ◌≤◌, true, ◌&&◌, List, [], length, refl, arith, eq-eqb}
use Rattle.std.specs.Prelude.{IsTrue, ◌==◌}
use Rattle.std.specs.List.{list_all}
use Rattle.std.proofs.lemmas.Bool.{both_ways, and_parts, and_from}
use Rattle.eve_grammar.specs.Trace.{Access, Attempt, Step, Attempts, Commits, RollsBack, Transfers}
use Rattle.eve_grammar.specs.Frames.{Frame, OfCustomer, OfBatch, OfReplica, OfAttempt, OfAccess, OfCommit, OfRollback}
use Rattle.eve_grammar.specs.Frames.{OfTransfer, OfVerifier, OfVote, OfSent, End, kind_of, next_place, is_allowed}
use Rattle.eve_grammar.specs.Limits.{is_customer, is_batch, is_access, is_attempt, is_step, is_vote, is_sent, row_count}
use Rattle.eve_grammar.specs.Limits.{is_of_version, is_body}
use Rattle.eve_grammar.specs.GatheredTraces.{Gathered, gather}
use Rattle.eve_grammar.proofs.FramePlaces.{InSection, of_customer, of_batch, of_replica, of_attempt, of_access}
use Rattle.eve_grammar.proofs.FramePlaces.{of_commit}
use Rattle.eve_grammar.proofs.FramePlaces.{of_rollback, of_transfer, of_verifier, of_vote}
use Rattle.eve_grammar.specs.declared.head.Head.{Head}
use Rattle.eve_grammar.specs.declared.place.Place.{Place}

-- ---- as many as are still to come

-- of customers, batches, accesses, sections, verifiers
abbrev pub IsCounted : Head → Place → Gathered → Type 0
IsCounted h p g =
    (length g.customers ≡ h.customers - p.customers) × (length g.batches ≡ h.batches - p.batches)
    × (length g.accesses ≡ p.accesses)
    × (length g.sections ≡ h.replicas - p.replicas) × (length g.verifiers ≡ h.verifiers - p.verifiers)

pub counted_more : (f : Frame) (h : Head) (p : Place) (g : Gathered) → 0 < h.verifiers
    → IsTrue (is_allowed h p (kind_of f)) → IsCounted h (next_place p f) g → IsCounted h p (gather f g)
counted_more (OfCustomer c) h p g some t n = let here = of_customer h p t in (omega arith, n.1, n.2, n.3, n.4)
counted_more (OfBatch number b) h p g some t n = let here = of_batch h p t in (n.0, omega arith, n.2, n.3, n.4)
counted_more (OfReplica number) h p g some t n = let here = of_replica h p t in (n.0, n.1, n.2, omega arith, n.4)
counted_more (OfAttempt a) h p g some t n = let here = of_attempt h p t in (n.0, n.1, omega arith, n.3, n.4)
counted_more (OfAccess x) h p g some t n = let here = of_access h p t in (n.0, n.1, omega arith, n.3, n.4)
counted_more (OfVerifier number) h p g some t n = let here = of_verifier h p some t in (n.0, n.1, n.2, n.3, omega arith)
counted_more _ h p g some t n = n

-- ---- no replica comes after the first verifier

abbrev pub HasAllReplicas : Head → Place → Type 0
HasAllReplicas h p = 0 < p.verifiers → h.replicas ≤ p.replicas

pub all_replicas : (h : Head) (p : Place) → 0 < h.verifiers → IsTrue (is_allowed h p 32) → HasAllReplicas h p
    → h.replicas ≤ p.replicas
all_replicas h p some t all = from_both h.replicas p.replicas p.verifiers (of_verifier h p some t).2 all
  where
    from_both : (replicas r v : ℕ) → (v ≡ 0 → replicas ≤ r) → (0 < v → replicas ≤ r) → replicas ≤ r
    from_both replicas r zero first later = first refl
    from_both replicas r (suc v) first later = later (omega arith)

pub all_replicas_more : (f : Frame) (h : Head) (p : Place) → 0 < h.verifiers → IsTrue (is_allowed h p (kind_of f))
    → HasAllReplicas h p → HasAllReplicas h (next_place p f)
all_replicas_more (OfReplica number) h p some t all = λ v. omega (arith, all v)
all_replicas_more (OfVerifier number) h p some t all = λ v. all_replicas h p some t all
all_replicas_more _ h p some t all = all

-- ---- what belongs to no frame from here on

-- steps before the first replica or after the first verifier, votes before this or after a reply sent: none
abbrev pub IsOwned : Place → Gathered → Type 0
IsOwned p g = (p.replicas ≡ 0 → g.steps ≡ []) × (0 < p.verifiers → g.steps ≡ []) × (p.verifiers ≡ 0 → g.votes ≡ [])
    × (p.sending ≡ true → g.votes ≡ [])

step_owned : (h : Head) (p : Place) (steps : List Step) → InSection h p → (p.replicas ≡ 0 → steps ≡ [])
    × (0 < p.verifiers → steps ≡ [])
step_owned h p steps here = (λ e. absurd (omega arith), λ e. absurd (omega arith))

pub owned_more : (f : Frame) (h : Head) (p : Place) (g : Gathered) → IsTrue (is_allowed h p (kind_of f))
    → IsOwned (next_place p f) g → IsOwned p (gather f g)
owned_more (OfReplica number) h p g t o = (λ e. refl, λ e. refl, o.2, o.3)
owned_more (OfAttempt a) h p g t o = let s = step_owned h p (gather (OfAttempt a) g).steps (of_attempt h p t) in
    (s.0, s.1, o.2, o.3)
owned_more (OfCommit c) h p g t o = let s = step_owned h p (gather (OfCommit c) g).steps (of_commit h p t) in
    (s.0, s.1, o.2, o.3)
owned_more (OfRollback r) h p g t o = let s = step_owned h p (gather (OfRollback r) g).steps (of_rollback h p t) in
    (s.0, s.1, o.2, o.3)
owned_more (OfTransfer x) h p g t o = let s = step_owned h p (gather (OfTransfer x) g).steps (of_transfer h p t).0 in
    (s.0, s.1, o.2, o.3)
owned_more (OfVerifier number) h p g t o = let none = o.1 (omega arith) in (λ e. none, λ e. none, λ e. refl, λ e. refl)
owned_more (OfVote v) h p g t o = let here = of_vote h p t in
    (o.0, o.1, λ e. absurd (omega arith), λ e. absurd (both_ways p.sending here.1 e))
owned_more (OfSent s) h p g t o = let none = o.3 refl in (o.0, o.1, λ e. none, λ e. none)
owned_more _ h p g t o = o

-- ---- limits

-- of customers, batches, accesses, steps, sections, votes, verifiers, and what is sent
abbrev pub IsWithin : Head → Gathered → Type 0
IsWithin h g =
    IsTrue (list_all is_customer g.customers) × IsTrue (list_all is_batch g.batches)
    × IsTrue (list_all (is_access (row_count h)) g.accesses)
    × IsTrue (list_all (is_step (row_count h)) g.steps)
    × IsTrue (list_all (list_all (is_step (row_count h))) g.sections)
    × IsTrue (list_all (is_vote h.batches) g.votes)
    × IsTrue (list_all (list_all (is_vote h.batches)) g.verifiers)
    × IsTrue (list_all (is_sent h.replicas h.batches) g.sent)

whole_attempt : (a : Attempt) (xs : List Access) (rows : ℕ) → length xs ≡ length a.certificate
    → IsTrue (is_attempt a && (length a.accesses == 0)) → IsTrue (list_all (is_access rows) xs)
    → IsTrue (is_step rows (Attempts (record a { accesses = xs })))
whole_attempt a xs rows e own all =
    let o = and_parts (is_attempt a) (length a.accesses == 0) own in
    and_from (is_attempt a) _ o.0
    (and_from (length xs == length a.certificate) _ (eq-eqb (length xs) (length a.certificate) e) all)

pub within_more : (f : Frame) (h : Head) (p : Place) (g : Gathered) → IsTrue (is_body h p f)
    → IsCounted h (next_place p f) g
    → IsWithin h g → IsWithin h (gather f g)
within_more (OfCustomer c) h p g b n w = (and_from (is_customer c) _ b w.0, w.1, w.2, w.3, w.4, w.5, w.6, w.7)
within_more (OfBatch number batch) h p g b n w =
    let own = and_parts (number == p.batches + 1) (is_batch batch) b in
    (w.0, and_from (is_batch batch) _ own.1 w.1, w.2, w.3, w.4, w.5, w.6, w.7)
within_more (OfReplica number) h p g b n w =
    (w.0, w.1, w.2, refl, and_from (list_all (is_step (row_count h)) g.steps) _ w.3 w.4, w.5, w.6, w.7)
within_more (OfAttempt a) h p g b n w =
    let own = whole_attempt a g.accesses (row_count h) n.2 b w.2 in (
      w.0,
      w.1,
      refl,
      and_from (is_step (row_count h) (Attempts (record a { accesses = g.accesses }))) _ own w.3,
      w.4,
      w.5,
      w.6,
      w.7,
    )
within_more (OfAccess x) h p g b n w = (w.0, w.1, and_from (is_access (row_count h) x) _ b w.2, w.3, w.4, w.5, w.6, w.7)
within_more (OfCommit c) h p g b n w =
    (w.0, w.1, w.2, and_from (is_step (row_count h) (Commits c)) _ b w.3, w.4, w.5, w.6, w.7)
within_more (OfRollback r) h p g b n w =
    (w.0, w.1, w.2, and_from (is_step (row_count h) (RollsBack r)) _ b w.3, w.4, w.5, w.6, w.7)
within_more (OfTransfer x) h p g b n w =
    (w.0, w.1, w.2, and_from (is_step (row_count h) (Transfers x)) _ b w.3, w.4, w.5, w.6, w.7)
within_more (OfVerifier number) h p g b n w =
    (w.0, w.1, w.2, w.3, w.4, refl, and_from (list_all (is_vote h.batches) g.votes) _ w.5 w.6, w.7)
within_more (OfVote v) h p g b n w = (w.0, w.1, w.2, w.3, w.4, and_from (is_vote h.batches v) _ b w.5, w.6, w.7)
within_more (OfSent s) h p g b n w =
    (w.0, w.1, w.2, w.3, w.4, w.5, w.6, and_from (is_sent h.replicas h.batches s) _ b w.7)
within_more End h p g b n w = w

-- ---- steps that the version has

-- the steps that belong to no replica among the frames, and those of each section
abbrev pub AreOfVersion : Head → Gathered → Type 0
AreOfVersion h g =
    IsTrue (list_all (is_of_version h.version) g.steps)
    × IsTrue (list_all (list_all (is_of_version h.version)) g.sections)

pub of_version_more : (f : Frame) (h : Head) (p : Place) (g : Gathered) → IsTrue (is_allowed h p (kind_of f))
    → AreOfVersion h g → AreOfVersion h (gather f g)
of_version_more (OfReplica number) h p g t v =
    (refl, and_from (list_all (is_of_version h.version) g.steps) _ v.0 v.1)
of_version_more (OfTransfer x) h p g t v =
    (and_from (is_of_version h.version (Transfers x)) _ (of_transfer h p t).1 v.0, v.1)
of_version_more _ h p g t v = v
