-- Every reached world keeps it.
use Rattle.std.proofs.Common.{◌≡◌, ℕ, zero, suc, ◌<◌, ◌≤◌, Bool, true, false, nat_lt, List, [], ◌∷◌, ◌++◌, Option, Some}
use Rattle.std.proofs.Common.{None, refl, sym, subst, ap, ◌∙◌, arith}
use Rattle.std.specs.Prelude.{IsPermutation}
use Rattle.std.specs.List.{AllByRecursion}
use Rattle.std.proofs.lemmas.Bool.{and_parts, eq-eqb, ltb-true, le-ltb, cond-false, false≢true}
use Rattle.std.proofs.lemmas.List.Sorted.{IsPermutation-refl}
use Rattle.eve_stamps.specs.Applied.{Applied}
use Rattle.eve_stamps_schedule.specs.declared.event.Event.{Event}
use Rattle.eve_stamps_schedule.specs.declared.event.Event.TheVariants.{Claim, LockStripe, Tick, Apply, Unlock, Note}
use Rattle.eve_stamps_schedule.specs.declared.stage.Stage.{Stage}
use Rattle.eve_stamps_schedule.specs.declared.stage.Stage.TheVariants as at
use Rattle.eve_stamps_schedule.specs.World.{Plan, World, first_world, noted_count, pending, records_below}
use Rattle.eve_stamps_schedule.specs.Events.{worker_of, next_stripe, last_stripe, with_owner, with_noted, record_made}
use Rattle.eve_stamps_schedule.specs.Events.{may}
use Rattle.eve_stamps_schedule.specs.Events.{is_allowed_event, then_happens, happens, are_allowed, world_after}
use Rattle.eve_stamps_schedule.proofs.Changes.{counted-at_least}
use Rattle.eve_stamps_schedule.proofs.InsertedRecords.{reordering-placed_by_tick, rises-placed_by_tick, none_counted}
use Rattle.eve_stamps_schedule.proofs.WorldInvariant.{flag, held, is_busy, is_claimed, is_ticked, has_index, has_tick}
use Rattle.eve_stamps_schedule.proofs.WorldInvariant.{Holds}
use Rattle.eve_stamps_schedule.proofs.WorldInvariant.{IsKept}
use Rattle.eve_stamps_schedule.proofs.EventCounts.{counts_claim, counts_tick, counts_apply, counts_note, counts_owner}
use Rattle.eve_stamps_schedule.proofs.WorkerRecords.{at_stage, at_owner, at_note, gathered_alike, gathered_apply}
use Rattle.eve_stamps_schedule.proofs.Histories.{holds_claim, holds_lock, holds_tick, holds_apply, holds_unlock}
use Rattle.eve_stamps_schedule.proofs.Histories.{holds_note}

kept_owner : (p : Plan) (w : World) (o owner : Option ℕ) (kept : IsKept p w)
    → Holds p (with_owner w o owner) kept.history → IsKept p (with_owner w o owner)
kept_owner p w None owner kept holds = kept
kept_owner p w (Some s) owner kept holds = record {
  counts = counts_owner p w (Some s) owner kept.counts;
  history = kept.history;
  holds = holds;
  same = kept.same;
  rises = kept.rises;
  gathered = gathered_alike w (with_owner w (Some s) owner) p.workers (at_owner w (Some s) owner) kept.gathered;
}

at_most_one : (b : Bool) → flag b ≤ 1
at_most_one true = omega arith
at_most_one false = omega arith

-- no applied record has the tick of a worker that hasn't applied
new_tick : (p : Plan) (w : World) (v i n : ℕ) → v < p.workers → w.stages v ≡ at.Ticked i n → IsKept p w
    → AllByRecursion (λ y. ¬ (y.tick ≡ n)) w.applied
new_tick p w v i n h stage kept =
    let one : 1 ≤ held (has_tick n) w.stages p.workers = subst (λ k. k ≤ held (has_tick n) w.stages p.workers)
    (ap (λ s. flag (has_tick n s)) stage ∙ ap flag (eq-eqb n n (λ _. n)))
    (counted-at_least (λ s. flag (has_tick n s)) w.stages v p.workers h) in
    none_counted (λ y. y.tick) n w.applied (omega (arith, kept.counts.ticks n, one, at_most_one (nat_lt n w.counter)))

kept_event : (p : Plan) (w : World) (event : Event) (stage : Stage) → worker_of event < p.workers
    → w.stages (worker_of event) ≡ stage → may p w event stage ≡ true
    → IsKept p w → IsKept p (then_happens p w event stage)
kept_event p w (Claim v) at.Idle h stage allowed kept = record {
  counts = counts_claim p w v h stage allowed kept.counts;
  history = kept.history;
  holds = holds_claim p w v kept.history allowed kept.holds;
  same = kept.same;
  rises = kept.rises;
  gathered = gathered_alike w (then_happens p w (Claim v) at.Idle) p.workers
      (at_stage w (then_happens p w (Claim v) at.Idle) v at.Idle (at.Claimed w.claimed) stage refl refl refl)
      kept.gathered;
}
kept_event p w (LockStripe v) (at.Claimed i) h stage allowed kept =
    kept_owner p w (next_stripe p w v i) (Some v) kept
    (holds_lock p w v (next_stripe p w v i) kept.history allowed kept.holds)
kept_event p w (Tick v) (at.Claimed i) h stage allowed kept = record {
  counts = counts_tick p w v i h stage kept.counts;
  history = kept.history;
  holds = holds_tick p w v i kept.history h stage allowed kept.holds;
  same = kept.same;
  rises = kept.rises;
  gathered = gathered_alike w (then_happens p w (Tick v) (at.Claimed i)) p.workers
      (at_stage w (then_happens p w (Tick v) (at.Claimed i)) v (at.Claimed i) (at.Ticked i w.counter) stage refl refl
      refl) kept.gathered;
}
kept_event p w (Apply v) (at.Ticked i n) h stage allowed kept =
    let x : Applied = record_made p w v i n in
    record {
      counts = counts_apply p w v x h stage kept.counts;
      history = kept.history ++ x ∷ [];
      holds = holds_apply p w v i n kept.history h stage kept.holds;
      same = reordering-placed_by_tick x w.applied kept.history kept.same;
      rises = rises-placed_by_tick x w.applied kept.rises (new_tick p w v i n h stage kept);
      gathered = gathered_apply w v p.workers x h (ap pending stage) kept.gathered;
    }
kept_event p w (Unlock v) (at.Applied x) h stage allowed kept =
    kept_owner p w (last_stripe w v) None kept
    (holds_unlock p w v x (last_stripe w v) kept.history stage refl kept.holds)
kept_event p w (Note v) (at.Applied x) h stage allowed kept = record {
  counts = counts_note p w v x h stage kept.counts;
  history = kept.history;
  holds = holds_note p w v x kept.history h stage kept.counts kept.holds;
  same = kept.same;
  rises = kept.rises;
  gathered = gathered_alike w (with_noted w v x) p.workers (at_note w v x stage) kept.gathered;
}
kept_event p w _ _ h stage allowed kept = absurd (false≢true allowed)

pub kept_allowed : (p : Plan) (w : World) (event : Event) → is_allowed_event p w event ≡ true → IsKept p w
    → IsKept p (happens p w event)
kept_allowed p w event allowed kept =
    let parts = and_parts (nat_lt (worker_of event) p.workers) (may p w event (w.stages (worker_of event))) allowed in
    kept_event p w event (w.stages (worker_of event)) (ltb-true (worker_of event) p.workers parts.0) refl parts.1 kept

kept_events : (p : Plan) (w : World) (events : List Event) → are_allowed p w events ≡ true → IsKept p w
    → IsKept p (world_after p w events)
kept_events p w [] allowed kept = kept
kept_events p w (event ∷ events) allowed kept =
    let parts = and_parts (is_allowed_event p w event) (are_allowed p (happens p w event) events) allowed in
    kept_events p (happens p w event) events parts.1 (kept_allowed p w event parts.0 kept)

-- ---- at first

nobody : (test : Stage → Bool) (n : ℕ) → test at.Idle ≡ false → held test (λ _. at.Idle) n ≡ 0
nobody test zero h = refl
nobody test (suc n) h =
    let none : flag (test at.Idle) ≡ 0 = ap flag h in
    omega (arith, none, nobody test n h)

pub nothing_noted : (n : ℕ) → noted_count (λ _. []) n ≡ 0
nothing_noted zero = refl
nothing_noted (suc n) = let before = nothing_noted n in omega (arith, before)

no_records : (p : Plan) (n : ℕ) → records_below (first_world p) n ≡ []
no_records p zero = refl
no_records p (suc n) = ap (λ (xs : List Applied). xs ++ []) (no_records p n)

not_below : (i : ℕ) → flag (nat_lt i 0) ≡ 0
not_below i = cond-false {A = ℕ} (nat_lt i 0) 1 0 (le-ltb i 0 (omega arith))

kept_first : (p : Plan) → IsKept p (first_world p)
kept_first p = record {
  counts = record {
    indexes = λ i. omega (arith, nobody (has_index i) p.workers refl, not_below i);
    ticks = λ n. omega (arith, nobody (has_tick n) p.workers refl, not_below n);
    claimed = omega (arith, nobody is_busy p.workers refl, nothing_noted p.workers);
    ticked = omega (arith, nobody is_claimed p.workers refl);
    applied = omega (arith, nobody is_ticked p.workers refl);
    within = omega arith;
    current = λ i h. absurd (omega arith);
  };
  history = [];
  holds = record {
    made = tt;
    follows = tt;
    table = refl;
    below = tt;
    ordered = tt;
    grouped = tt;
    passed = tt;
    ready = λ v h. tt;
  };
  same = refl;
  rises = tt;
  gathered = subst (λ xs. IsPermutation xs []) (sym (no_records p p.workers)) (IsPermutation-refl []);
}

pub kept_after : (p : Plan) (events : List Event) → are_allowed p (first_world p) events ≡ true
    → IsKept p (world_after p (first_world p) events)
kept_after p events allowed = kept_events p (first_world p) events allowed (kept_first p)
