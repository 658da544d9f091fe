-- The frames from a place up to the end, from what they say.
use Rattle.std.proofs.Common.{◌≡◌, ℕ, ◌+◌, ◌-◌, ◌<◌, ◌≤◌, true, false, List, [], ◌∷◌, ◌++◌, map, length, refl, sym, ap}
use Rattle.std.proofs.Common.{append_assoc, arith, eqb-true}
use Rattle.std.specs.Prelude.{IsTrue, ◌==◌}
use Rattle.std.specs.List.{flat_map, enumerate_from}
use Rattle.std.proofs.lemmas.Bool.{both_ways, and_parts}
use Rattle.std.proofs.lemmas.List.{nil_from_length}
use Rattle.eve_grammar.specs.Trace.{Batch, Access, Attempt, Step, Commits, RollsBack, Transfers, Vote, Sent}
use Rattle.eve_grammar.specs.Frames.{Frame, OfCustomer, OfBatch, OfReplica, OfAttempt, OfAccess, OfCommit, OfRollback}
use Rattle.eve_grammar.specs.Frames.{OfTransfer, OfVerifier, OfVote, OfSent, End, without_accesses, step_frames}
use Rattle.eve_grammar.specs.Frames.{section_frames, verifier_frames, kind_of, next_place, is_allowed}
use Rattle.eve_grammar.specs.Limits.{is_batch, is_attempt, is_body}
use Rattle.eve_grammar.specs.GatheredTraces.{Gathered, gather}
use Rattle.eve_grammar.proofs.FramePlaces.{of_batch, of_access, of_replica, of_attempt, of_commit, of_rollback}
use Rattle.eve_grammar.proofs.FramePlaces.{of_transfer, of_verifier, of_vote, of_sent, IsBehind, IsSettled}
use Rattle.eve_grammar.proofs.RestParts.{IsCounted, HasAllReplicas, all_replicas, IsOwned}
use Rattle.eve_grammar.specs.declared.head.Head.{Head}
use Rattle.eve_grammar.specs.declared.place.Place.{Place}

-- the frames from a place on that say what is gathered
abbrev pub frames_from : Place → Gathered → List Frame
frames_from p g =
    map OfCustomer g.customers ++
    (map (λ b. OfBatch b.0 b.1) (enumerate_from (p.batches + 1) g.batches) ++
    (map OfAccess g.accesses ++ (flat_map step_frames g.steps
    ++ (flat_map section_frames (enumerate_from p.replicas g.sections) ++
    (map OfVote g.votes ++ (flat_map verifier_frames (enumerate_from p.verifiers g.verifiers)
    ++ (map OfSent g.sent ++ End ∷ [])))))))

-- customers and batches are past
record IsLate (g : Gathered) : Type 0 where
  customers : g.customers ≡ []
  batches : g.batches ≡ []

late : (h : Head) (p : Place) (g : Gathered) → IsBehind h p → length g.customers ≡ h.customers - p.customers
    → length g.batches ≡ h.batches - p.batches → IsLate g
late h p g s cs bs = record {
  customers = nil_from_length g.customers (omega arith);
  batches = nil_from_length g.batches
      (omega arith);
}

frames_of_batch : (number : ℕ) (b : Batch) (p : Place) (g : Gathered) (fs : List Frame) → g.customers ≡ []
    → number ≡ p.batches + 1 → frames_from (next_place p (OfBatch number b)) g ≡ fs
    → frames_from p (gather (OfBatch number b) g) ≡ OfBatch number b ∷ fs
frames_of_batch number b p g fs none n e =
    let rest = rw none at e in
    rw (none, n) (ap (λ (fs : List Frame). OfBatch (p.batches + 1) b ∷ fs) rest)

frames_of_replica : (number : ℕ) (p : Place) (g : Gathered) (fs : List Frame) → IsLate g → g.accesses ≡ []
    → number ≡ p.replicas → frames_from (next_place p (OfReplica number)) g ≡ fs
    → frames_from p (gather (OfReplica number) g) ≡ OfReplica number ∷ fs
frames_of_replica number p g fs l none n e =
    let rest = rw (l.customers, l.batches, none) at e in
    rw (l.customers, l.batches, none, n, append_assoc) (ap (λ (fs : List Frame). OfReplica p.replicas ∷ fs) rest)

frames_of_attempt : (a : Attempt) (p : Place) (g : Gathered) (fs : List Frame) → IsLate g → a.accesses ≡ []
    → frames_from (next_place p (OfAttempt a)) g ≡ fs
    → frames_from p (gather (OfAttempt a) g) ≡ OfAttempt a ∷ fs
frames_of_attempt a p g fs l none e =
    let rest = rw (l.customers, l.batches) at e in
    let own : OfAttempt (without_accesses a) ≡ OfAttempt a =
    ap (λ (xs : List Access). OfAttempt (record a { accesses = xs })) (sym none) in
    rw (l.customers, l.batches, own, append_assoc (map OfAccess g.accesses) (flat_map step_frames g.steps) _)
    (ap (λ (fs : List Frame). OfAttempt a ∷ fs) rest)

frames_of_access : (x : Access) (p : Place) (g : Gathered) (fs : List Frame) → IsLate g
    → frames_from (next_place p (OfAccess x)) g ≡ fs → frames_from p (gather (OfAccess x) g) ≡ OfAccess x ∷ fs
frames_of_access x p g fs l e =
    let rest = rw (l.customers, l.batches) at e in
    rw (l.customers, l.batches) (ap (λ (fs : List Frame). OfAccess x ∷ fs) rest)

-- a commit, a rollback or a transfer
frames_of_step : (s : Step) (f : Frame) (p : Place) (g : Gathered) (fs : List Frame) → step_frames s ≡ f ∷ [] → IsLate g
    → g.accesses ≡ [] → frames_from p g ≡ fs
    → frames_from p (record g { steps = s ∷ g.steps }) ≡ f ∷ fs
frames_of_step s f p g fs one l none e =
    let rest = rw (l.customers, l.batches, none) at e in
    rw (l.customers, l.batches, none, one) (ap (λ (fs : List Frame). f ∷ fs) rest)

-- and so are the sections
record IsVoting (g : Gathered) : Type 0 where
  late : IsLate g
  accesses : g.accesses ≡ []
  steps : g.steps ≡ []
  sections : g.sections ≡ []

frames_of_verifier : (number : ℕ) (p : Place) (g : Gathered) (fs : List Frame) → IsVoting g → number ≡ p.verifiers
    → frames_from (next_place p (OfVerifier number)) g ≡ fs
    → frames_from p (gather (OfVerifier number) g) ≡ OfVerifier number ∷ fs
frames_of_verifier number p g fs v n e =
    let rest = rw (v.late.customers, v.late.batches, v.accesses, v.steps, v.sections) at e in
    rw (v.late.customers, v.late.batches, v.accesses, v.steps, v.sections, n, append_assoc)
    (ap (λ (fs : List Frame). OfVerifier p.verifiers ∷ fs) rest)

frames_of_vote : (w : Vote) (p : Place) (g : Gathered) (fs : List Frame) → IsVoting g → frames_from p g ≡ fs
    → frames_from p (gather (OfVote w) g) ≡ OfVote w ∷ fs
frames_of_vote w p g fs v e =
    let rest = rw (v.late.customers, v.late.batches, v.accesses, v.steps, v.sections) at e in
    rw (v.late.customers, v.late.batches, v.accesses, v.steps, v.sections)
    (ap (λ (fs : List Frame). OfVote w ∷ fs) rest)

frames_of_sent : (s : Sent) (p : Place) (g : Gathered) (fs : List Frame) → IsVoting g → g.votes ≡ [] → g.verifiers ≡ []
    → frames_from (next_place p (OfSent s)) g ≡ fs
    → frames_from p (gather (OfSent s) g) ≡ OfSent s ∷ fs
frames_of_sent s p g fs v votes verifiers e =
    let rest = rw (v.late.customers, v.late.batches, v.accesses, v.steps, v.sections, votes, verifiers) at e in
    rw (v.late.customers, v.late.batches, v.accesses, v.steps, v.sections, votes, verifiers)
    (ap (λ (fs : List Frame). OfSent s ∷ fs) rest)

voting : (h : Head) (p : Place) (g : Gathered) → IsSettled h p → h.replicas ≤ p.replicas → g.steps ≡ []
    → length g.customers ≡ h.customers - p.customers → length g.batches ≡ h.batches - p.batches → length g.accesses
    ≡ p.accesses → length g.sections ≡ h.replicas - p.replicas → IsVoting g
voting h p g s all steps cs bs xs ss = record {
  late = late h p g s.behind cs bs;
  accesses = nil_from_length g.accesses (omega arith);
  steps = steps;
  sections = nil_from_length g.sections (omega arith);
}

-- with one more frame
pub frames_more : (f : Frame) (h : Head) (p : Place) (g : Gathered) (fs : List Frame) → 0 < h.verifiers
    → IsTrue (is_allowed h p (kind_of f)) → IsTrue (is_body h p f)
    → (next_place p f).ended ≡ false → HasAllReplicas h p → IsCounted h (next_place p f) g → IsOwned (next_place p f) g
    → frames_from (next_place p f) g ≡ fs → frames_from p (gather f g) ≡ f ∷ fs
frames_more (OfCustomer c) h p g fs some t b on all n o e = ap (λ (fs : List Frame). OfCustomer c ∷ fs) e
frames_more (OfBatch number batch) h p g fs some t b on all n o e =
    let at = of_batch h p t in
    let both = and_parts (number == p.batches + 1) (is_batch batch) b in
    frames_of_batch number batch p g fs (nil_from_length g.customers (omega arith))
    (eqb-true number (p.batches + 1) both.0) e
frames_more (OfReplica number) h p g fs some t b on all n o e =
    let at = of_replica h p t in
    frames_of_replica number p g fs (late h p g at.0.behind n.0 n.1) (nil_from_length g.accesses (omega arith))
    (eqb-true number p.replicas b) e
frames_more (OfAttempt a) h p g fs some t b on all n o e =
    let at = of_attempt h p t in
    let own = and_parts (is_attempt a) (length a.accesses == 0) b in
    frames_of_attempt a p g fs (late h p g at.settled.behind n.0 n.1)
    (nil_from_length a.accesses (eqb-true (length a.accesses) 0 own.1)) e
frames_more (OfAccess x) h p g fs some t b on all n o e =
    let at = of_access h p t in
    frames_of_access x p g fs (late h p g at.0 n.0 n.1) e
frames_more (OfCommit c) h p g fs some t b on all n o e =
    let at = of_commit h p t in
    frames_of_step (Commits c) (OfCommit c) p g fs refl (late h p g at.settled.behind n.0 n.1)
    (nil_from_length g.accesses (omega arith)) e
frames_more (OfRollback r) h p g fs some t b on all n o e =
    let at = of_rollback h p t in
    frames_of_step (RollsBack r) (OfRollback r) p g fs refl (late h p g at.settled.behind n.0 n.1)
    (nil_from_length g.accesses (omega arith)) e
frames_more (OfTransfer x) h p g fs some t b on all n o e =
    let at = (of_transfer h p t).0 in
    frames_of_step (Transfers x) (OfTransfer x) p g fs refl (late h p g at.settled.behind n.0 n.1)
    (nil_from_length g.accesses (omega arith)) e
frames_more (OfVerifier number) h p g fs some t b on all n o e =
    let at = of_verifier h p some t in
    frames_of_verifier number p g fs
    (voting h p g at.0 (all_replicas h p some t all) (o.1 (omega arith)) n.0 n.1 n.2 n.3)
    (eqb-true number p.verifiers b) e
frames_more (OfVote v) h p g fs some t b on all n o e =
    let at = of_vote h p t in
    frames_of_vote v p g fs (voting h p g at.0.settled (all at.0.votes) (o.1 at.0.votes) n.0 n.1 n.2 n.3) e
frames_more (OfSent s) h p g fs some t b on all n o e =
    let at = of_sent h p t in
    frames_of_sent s p g fs (voting h p g at.0.settled (all at.0.votes) (o.1 at.0.votes) n.0 n.1 n.2 n.3) (o.3 refl)
    (nil_from_length g.verifiers (omega arith)) e
frames_more End h p g fs some t b on all n o e = absurd (both_ways true on refl)
