-- What holds of a schedule after a step.
use Rattle.std.proofs.Common.{◌≡◌, ℕ, ◌+◌, ◌<◌, ◌≤◌, Bool, true, false, nat_lt, cond, List, [], ◌∷◌, ◌++◌, length}
use Rattle.std.proofs.Common.{get_or, set, Option, Some, None, is_none, is_some, refl, sym, subst, ap, ◌∙◌, inl, inr}
use Rattle.std.proofs.Common.{arith}
use mathlib.Core.Path.{fun_ext}
use Rattle.std.proofs.lemmas.Bool.{cases_eq, and_from, and_right, eqb-true, eq-eqb, ltb-true, lt-ltb}
use Rattle.std.proofs.lemmas.Bool.{false≢true}
use Rattle.std.proofs.lemmas.Grind.{get_or-set_at}
use Rattle.std.proofs.lemmas.List.{get_or-set_other, length-set, length-map, length-append}
use Rattle.eve_smallbank.specs.Access.{Executed}
use Rattle.eve_smallbank.specs.Chain.{Table, table_after, visible_at, table_after_all}
use Rattle.eve_smallbank.specs.Conflict.{IsReordering}
use Rattle.eve_stamps.specs.Applied.{Applied}
use Rattle.eve_stamps.specs.Stripes.{Stripe, lies_in, table_in, is_above}
use Rattle.eve_stamps.specs.declared.limits.TheConstants.{STRIPES}
use Rattle.eve_stamps.specs.OpeningRows.{stripe_of}
use Rattle.eve_stamps_schedule.specs.declared.event.Event.{Event}
use Rattle.eve_stamps_schedule.specs.declared.event.Event.TheVariants.{Claim, LockStripe, Tick, Apply, Unlock, Note}
use Rattle.eve_stamps_schedule.specs.declared.stage.Stage.{Stage}
use Rattle.eve_stamps_schedule.specs.declared.stage.Stage.TheVariants as at
use Rattle.eve_stamps_schedule.specs.ListOrder.{EachBefore}
use Rattle.eve_stamps_schedule.specs.Stripes.{needs}
use Rattle.eve_stamps_schedule.specs.World.{Plan, planned_request, executed_record, noted_count}
use Rattle.eve_stamps_schedule.specs.Events.{worker_of, current_group, is_owner, next_stripe, last_stripe, may}
use Rattle.eve_stamps_schedule.specs.Events.{record_made}
use Rattle.eve_stamps_schedule.specs.Events.{placed_by_tick, with_owner, with_applied, then_happens, happens}
use Rattle.eve_stamps_schedule.specs.Serial.{IsReachedWorld}
use Rattle.eve_stamps_schedule.specs.Schedule.{Schedule, stripe_at, table_of_stripes, base_of, plan_of, world_of}
use Rattle.eve_stamps_schedule.specs.Schedule.{allows}
use Rattle.eve_stamps_schedule.specs.AppliedRequests.{AreFresh, IsKeptAt}
use Rattle.eve_stamps_schedule.specs.Scheduled.{IsTimely, IsHeldSchedule}
use Rattle.eve_stamps_schedule.proofs.Changes.{counted-at_least}
use Rattle.eve_stamps_schedule.proofs.Places.{changed_at}
use Rattle.eve_stamps_schedule.proofs.Tables.{few_versions}
use Rattle.eve_stamps_schedule.proofs.WorldInvariant.{flag, held, is_busy, has_index, executed, IsReady}
use Rattle.eve_stamps_schedule.proofs.EventCounts.{noted_counted, noted_more}
use Rattle.eve_stamps_schedule.proofs.Histories.{one_owner}
use Rattle.eve_stamps_schedule.proofs.CommonStripes.{needs_small}
use Rattle.eve_stamps_schedule.proofs.Schedules.{reached_kept}
use Rattle.eve_stamps_schedule.proofs.EventSteps.{reached_next}

-- ---- which events are allowed

pub allowed_by : (s : Schedule) (event : Event) (stage : Stage) → worker_of event < length s.stages
    → (world_of s).stages (worker_of event) ≡ stage
    → may (plan_of s) (world_of s) event stage ≡ true → allows s event ≡ true
allowed_by s event stage there is passes =
    and_from (nat_lt (worker_of event) (length s.stages))
    (may (plan_of s) (world_of s) event ((world_of s).stages (worker_of event)))
    (lt-ltb (worker_of event) (length s.stages) there) (ap (may (plan_of s) (world_of s) event) is ∙ passes)

pub refused_by : (s : Schedule) (event : Event) (stage : Stage) → (world_of s).stages (worker_of event) ≡ stage
    → may (plan_of s) (world_of s) event stage ≡ false → allows s event ≡ false
refused_by s event stage is fails =
    and_right (nat_lt (worker_of event) (length s.stages))
    (may (plan_of s) (world_of s) event ((world_of s).stages (worker_of event)))
    (ap (may (plan_of s) (world_of s) event) is ∙ fails)

reached_behind : (s t : Schedule) (event : Event) → IsReachedWorld (plan_of s) (world_of s) → allows s event ≡ true
    → plan_of t ≡ plan_of s
    → world_of t ≡ happens (plan_of s) (world_of s) event → IsReachedWorld (plan_of t) (world_of t)
reached_behind s t event reached allowed plan world =
    subst (λ p. IsReachedWorld p (world_of t)) (sym plan)
    (subst (IsReachedWorld (plan_of s)) (sym world) (reached_next (plan_of s) (world_of s) event reached allowed))

-- ---- what is known of a worker

pub flag_holds : (b : Bool) → 1 ≤ flag b → b ≡ true
flag_holds true h = refl
flag_holds false h = absurd (omega arith)

-- an index that a worker has is claimed, and there
index_there : (s : Schedule) (count v i : ℕ) (stage : Stage) → IsHeldSchedule s count → v < length s.stages
    → (world_of s).stages v ≡ stage → has_index i stage ≡ true → i < length s.requests
index_there s count v i stage is there stands has =
    let counts = (reached_kept (plan_of s) (world_of s) is.reached).counts in
    let one : 1 ≤ held (has_index i) (world_of s).stages (length s.stages) =
    subst (λ k. k ≤ held (has_index i) (world_of s).stages (length s.stages))
    (ap (λ t. flag (has_index i t)) stands ∙ ap flag has)
    (counted-at_least (λ t. flag (has_index i t)) (world_of s).stages v (length s.stages) there) in
    let low : i < s.claimed =
    ltb-true i s.claimed (flag_holds (nat_lt i s.claimed) (omega (arith, counts.indexes i, one))) in
    omega (arith, counts.within)

pub claimed_there : (s : Schedule) (count v i : ℕ) → IsHeldSchedule s count → v < length s.stages
    → (world_of s).stages v
    ≡ at.Claimed i → i < length s.requests
claimed_there s count v i is there stands = index_there s count v i (at.Claimed i) is there stands (eq-eqb i i refl)

pub ticked_there : (s : Schedule) (count v i n : ℕ) → IsHeldSchedule s count → v < length s.stages
    → (world_of s).stages v
    ≡ at.Ticked i n → i < length s.requests
ticked_there s count v i n is there stands = index_there s count v i (at.Ticked i n) is there stands (eq-eqb i i refl)

-- ---- small numbers

pub few_ticks : (s : Schedule) (count : ℕ) → IsHeldSchedule s count → s.counter ≤ length s.requests
few_ticks s count is = let c = (reached_kept (plan_of s) (world_of s) is.reached).counts in
    omega (arith, c.within, c.ticked)

-- one that is busy will note one more
pub few_noted : (s : Schedule) (count v : ℕ) (stage : Stage) → IsHeldSchedule s count → v < length s.stages
    → (world_of s).stages v ≡ stage → is_busy stage ≡ true → count < length s.requests
few_noted s count v stage is there stands busy =
    let c = (reached_kept (plan_of s) (world_of s) is.reached).counts in
    let one : 1 ≤ held is_busy (world_of s).stages (length s.stages) =
    subst (λ k. k ≤ held is_busy (world_of s).stages (length s.stages))
    (ap (λ t. flag (is_busy t)) stands ∙ ap flag busy)
    (counted-at_least (λ t. flag (is_busy t)) (world_of s).stages v (length s.stages) there) in
    omega (arith, c.within, c.claimed, is.counted, one)

pub short_list : (s : Schedule) (count v : ℕ) → IsHeldSchedule s count → v < length s.stages
    → length ((world_of s).noted v) ≤ length s.requests
short_list s count v is there =
    let c = (reached_kept (plan_of s) (world_of s) is.reached).counts in
    omega (
      arith,
      c.within,
      c.claimed,
      noted_counted (world_of s).noted (length s.stages),
      counted-at_least length
          (world_of s).noted v (length s.stages) there,
    )

-- ---- what is timely

above_more : (m n : ℕ) (o : Option ℕ) → m ≤ n → is_above m o ≡ true → is_above n o ≡ true
above_more m n None le above = refl
above_more m n (Some g) le above = let low : g < m = ltb-true g m above in lt-ltb g n (omega arith)

-- one worker goes to another stage
timely_stage : (counter more v : ℕ) (x : Stage) (owner : Option ℕ) (stages : List Stage) (greatest : Option ℕ)
    → v < length stages → counter ≤ more
    → ((index tick : ℕ) → x ≡ at.Ticked index tick → is_above tick greatest ≡ true)
    → IsTimely counter owner stages greatest → IsTimely more owner (set stages v x) greatest
timely_stage counter more v x owner stages greatest there le new old = record {
  counter = above_more counter more greatest le old.counter;
  owned = λ u index tick is own. elim (cases_eq u v) [
    | inl same ↦ new index tick (sym (get_or-set_at stages v u x at.Idle same there) ∙ is)
    | inr other ↦ old.owned u index tick (sym (get_or-set_other stages v u x at.Idle other) ∙ is) own
  ];
}

pub idle_not_ticked : (i n : ℕ) → at.Idle ≡ at.Ticked i n → ⊥
idle_not_ticked i n e = cc

claimed_not_ticked : (j i n : ℕ) → at.Claimed j ≡ at.Ticked i n → ⊥
claimed_not_ticked j i n e = cc

applied_not_ticked : (x : Applied) (i n : ℕ) → at.Applied x ≡ at.Ticked i n → ⊥
applied_not_ticked x i n e = cc

-- a worker without a tick owns it now, or nobody does
timely_locked : (counter v j : ℕ) (owner : Option ℕ) (stages : List Stage) (greatest : Option ℕ)
    → get_or stages v at.Idle ≡ at.Claimed j → IsTimely counter owner stages greatest
    → IsTimely counter (Some v) stages greatest
timely_locked counter v j owner stages greatest stage old = record {
  counter = old.counter;
  owned = λ u index tick is own. absurd
      (claimed_not_ticked j index tick (sym stage ∙ ap (λ k. get_or stages k at.Idle) (eqb-true v u own) ∙ is));
}

timely_unlocked : (counter : ℕ) (owner : Option ℕ) (stages : List Stage) (greatest : Option ℕ)
    → IsTimely counter owner stages greatest → IsTimely counter None stages greatest
timely_unlocked counter owner stages greatest old =
    record { counter = old.counter; owned = λ u index tick is own. absurd (false≢true own) }

-- a worker that owns it has applied at its tick
timely_applied : (counter v n : ℕ) (x : Applied) (owner : Option ℕ) (stages : List Stage) (is_changed : Bool)
    (greatest new : Option ℕ) → v < length stages → n < counter
    → (is_changed ≡ true → is_owner v owner ≡ true) → new ≡ cond is_changed (Some n) greatest
    → IsTimely counter owner stages greatest
    → IsTimely counter owner (set stages v (at.Applied x)) new
timely_applied counter v n x owner stages false greatest new there less own is old =
    subst (IsTimely counter owner (set stages v (at.Applied x))) (sym is)
    (timely_stage counter counter v (at.Applied x) owner stages greatest there (omega arith)
    (λ i k e. absurd (applied_not_ticked x i k e)) old)
timely_applied counter v n x owner stages true greatest new there less own is old =
    subst (IsTimely counter owner (set stages v (at.Applied x))) (sym is) (record {
      counter = lt-ltb n counter less;
      owned = λ u index tick stage mine. elim (cases_eq u v) [
        | inl same ↦ absurd (applied_not_ticked x index tick
            (sym (get_or-set_at stages v u (at.Applied x) at.Idle same there) ∙ stage))
        | inr other ↦ absurd (other (one_owner u v owner mine (own refl)))
      ];
    })

-- ---- plans

abbrev plan_with : Schedule → ℕ → Plan
plan_with s n = record {
  names = s.names;
  base = base_of s.stripes;
  sizes = s.sizes;
  requests = s.requests;
  workers = n;
}

-- ---- claims

abbrev pub with_claim : Schedule → ℕ → Schedule
with_claim s v = record s { claimed = s.claimed + 1; stages = set s.stages v (at.Claimed s.claimed) }

pub claim_plan : (s : Schedule) (v : ℕ) → plan_of (with_claim s v) ≡ plan_of s
claim_plan s v = ap (plan_with s) (length-set s.stages v (at.Claimed s.claimed))

pub claim_world : (s : Schedule) (v : ℕ) → v < length s.stages → (world_of s).stages v ≡ at.Idle
    → world_of (with_claim s v) ≡ happens (plan_of s) (world_of s) (Claim v)
claim_world s v there stage =
    ap (λ (f : ℕ → Stage). record {
      table = table_of_stripes s.stripes;
      owners = (world_of s).owners;
      claimed = s.claimed + 1;
      counter = s.counter;
      stages = f;
      noted = (world_of s).noted;
      applied = s.applied;
    })
    (changed_at s.stages v (at.Claimed s.claimed) at.Idle there)
    ∙ sym (ap (then_happens (plan_of s) (world_of s) (Claim v)) stage)

pub claim_held : (s : Schedule) (count v : ℕ) → IsHeldSchedule s count → v < length s.stages → (world_of s).stages v
    ≡ at.Idle
    → allows s (Claim v) ≡ true → IsHeldSchedule (with_claim s v) count
claim_held s count v is there stage allowed =
    let long : length (set s.stages v (at.Claimed s.claimed)) ≡ length s.stages =
    length-set s.stages v (at.Claimed s.claimed) in
    record {
      few = is.few;
      stripes = is.stripes;
      owners = is.owners;
      noted = is.noted ∙ sym long;
      counted = is.counted ∙ ap (noted_count (world_of s).noted) (sym long);
      from_opening = is.from_opening;
      reached = reached_behind s (with_claim s v) (Claim v) is.reached allowed (claim_plan s v)
          (claim_world s v there stage);
      rows = is.rows;
      timely = λ i small. timely_stage s.counter s.counter v (at.Claimed s.claimed) (get_or s.owners i None) s.stages
          (stripe_at s.stripes i).greatest there (omega arith)
          (λ j n e. absurd (claimed_not_ticked s.claimed j n e)) (is.timely i small);
    }

-- ---- locks

abbrev pub with_lock : Schedule → ℕ → Option ℕ → Schedule
with_lock s k owner = record s { owners = set s.owners k owner }

owner_world : (s : Schedule) (k : ℕ) (owner : Option ℕ) → k < length s.owners → world_of (with_lock s k owner)
    ≡ with_owner (world_of s) (Some k) owner
owner_world s k owner there =
    ap (λ (f : ℕ → Option ℕ). record {
      table = table_of_stripes s.stripes;
      owners = f;
      claimed = s.claimed;
      counter = s.counter;
      stages = (world_of s).stages;
      noted = (world_of s).noted;
      applied = s.applied;
    })
    (changed_at s.owners k owner None there)

pub lock_world : (s : Schedule) (v i k : ℕ) → k < length s.owners → (world_of s).stages v ≡ at.Claimed i
    → next_stripe (plan_of s) (world_of s) v i ≡ Some k
    → world_of (with_lock s k (Some v)) ≡ happens (plan_of s) (world_of s) (LockStripe v)
lock_world s v i k there stage next =
    owner_world s k (Some v) there ∙ ap (λ o. with_owner (world_of s) o (Some v)) (sym next)
    ∙ sym (ap (then_happens (plan_of s) (world_of s) (LockStripe v)) stage)

pub unlock_world : (s : Schedule) (v k : ℕ) (x : Applied) → k < length s.owners → (world_of s).stages v ≡ at.Applied x
    → last_stripe (world_of s) v ≡ Some k
    → world_of (with_lock s k None) ≡ happens (plan_of s) (world_of s) (Unlock v)
unlock_world s v k x there stage last =
    owner_world s k None there ∙ ap (λ o. with_owner (world_of s) o None) (sym last)
    ∙ sym (ap (then_happens (plan_of s) (world_of s) (Unlock v)) stage)

owner_held : (s : Schedule) (count k : ℕ) (owner : Option ℕ) (event : Event) → IsHeldSchedule s count
    → k < length s.owners
    → allows s event ≡ true
    → world_of (with_lock s k owner) ≡ happens (plan_of s) (world_of s) event
    → ((i : ℕ) → i < STRIPES → IsTimely s.counter owner s.stages (stripe_at s.stripes i).greatest)
    → IsHeldSchedule (with_lock s k owner) count
owner_held s count k owner event is there allowed world timely = record {
  few = is.few;
  stripes = is.stripes;
  owners = length-set s.owners k owner ∙ is.owners;
  noted = is.noted;
  counted = is.counted;
  from_opening = is.from_opening;
  reached = reached_behind s (with_lock s k owner) event is.reached allowed refl world;
  rows = is.rows;
  timely = λ i small. elim (cases_eq i k) [
    | inl same ↦ subst (λ o. IsTimely s.counter o s.stages (stripe_at s.stripes i).greatest)
        (sym (get_or-set_at s.owners k i owner None same there)) (timely i small)
    | inr other ↦ subst (λ o. IsTimely s.counter o s.stages (stripe_at s.stripes i).greatest)
        (sym (get_or-set_other s.owners k i owner None other)) (is.timely i small)
  ];
}

pub lock_held : (s : Schedule) (count v i k : ℕ) → IsHeldSchedule s count → k < length s.owners → (world_of s).stages v
    ≡ at.Claimed i → next_stripe (plan_of s) (world_of s) v i ≡ Some k
    → allows s (LockStripe v) ≡ true → IsHeldSchedule (with_lock s k (Some v)) count
lock_held s count v i k is there stage next allowed =
    owner_held s count k (Some v) (LockStripe v) is there allowed (lock_world s v i k there stage next)
    (λ j small. timely_locked s.counter v i (get_or s.owners j None) s.stages (stripe_at s.stripes j).greatest stage
    (is.timely j small))

pub unlock_held : (s : Schedule) (count v k : ℕ) (x : Applied) → IsHeldSchedule s count → k < length s.owners
    → (world_of s).stages v ≡ at.Applied x → last_stripe (world_of s) v ≡ Some k
    → allows s (Unlock v) ≡ true → IsHeldSchedule (with_lock s k None) count
unlock_held s count v k x is there stage last allowed =
    owner_held s count k None (Unlock v) is there allowed (unlock_world s v k x there stage last)
    (λ j small. timely_unlocked s.counter (get_or s.owners j None) s.stages (stripe_at s.stripes j).greatest
    (is.timely j small))

-- ---- ticks

abbrev pub with_tick : Schedule → ℕ → ℕ → Schedule
with_tick s v i = record s { counter = s.counter + 1; stages = set s.stages v (at.Ticked i s.counter) }

pub tick_plan : (s : Schedule) (v i : ℕ) → plan_of (with_tick s v i) ≡ plan_of s
tick_plan s v i = ap (plan_with s) (length-set s.stages v (at.Ticked i s.counter))

pub tick_world : (s : Schedule) (v i : ℕ) → v < length s.stages → (world_of s).stages v ≡ at.Claimed i
    → world_of (with_tick s v i) ≡ happens (plan_of s) (world_of s) (Tick v)
tick_world s v i there stage =
    ap (λ (f : ℕ → Stage). record {
      table = table_of_stripes s.stripes;
      owners = (world_of s).owners;
      claimed = s.claimed;
      counter = s.counter + 1;
      stages = f;
      noted = (world_of s).noted;
      applied = s.applied;
    })
    (changed_at s.stages v (at.Ticked i s.counter) at.Idle there)
    ∙ sym (ap (then_happens (plan_of s) (world_of s) (Tick v)) stage)

ticked_same : (i j m n : ℕ) → at.Ticked i m ≡ at.Ticked j n → m ≡ n
ticked_same i j m n e = cc

pub tick_held : (s : Schedule) (count v i : ℕ) → IsHeldSchedule s count → v < length s.stages → (world_of s).stages v
    ≡ at.Claimed i → allows s (Tick v) ≡ true → IsHeldSchedule (with_tick s v i) count
tick_held s count v i is there stage allowed =
    let long : length (set s.stages v (at.Ticked i s.counter)) ≡ length s.stages =
    length-set s.stages v (at.Ticked i s.counter) in
    record {
      few = is.few;
      stripes = is.stripes;
      owners = is.owners;
      noted = is.noted ∙ sym long;
      counted = is.counted ∙ ap (noted_count (world_of s).noted) (sym long);
      from_opening = is.from_opening;
      reached = reached_behind s (with_tick s v i) (Tick v) is.reached allowed (tick_plan s v i)
          (tick_world s v i there stage);
      rows = is.rows;
      timely = λ j small. timely_stage s.counter (s.counter + 1) v (at.Ticked i s.counter) (get_or s.owners j None)
          s.stages (stripe_at s.stripes j).greatest there (omega arith)
          (λ k n e. subst (λ m. is_above m (stripe_at s.stripes j).greatest ≡ true) (ticked_same i k s.counter n e)
          (is.timely j small).counter) (is.timely j small);
    }

-- ---- notes

abbrev pub with_note : Schedule → ℕ → Applied → Schedule
with_note s v x = record s { stages = set s.stages v at.Idle; noted = set s.noted v (get_or s.noted v [] ++ x ∷ []) }

pub note_plan : (s : Schedule) (v : ℕ) (x : Applied) → plan_of (with_note s v x) ≡ plan_of s
note_plan s v x = ap (plan_with s) (length-set s.stages v at.Idle)

pub note_world : (s : Schedule) (v : ℕ) (x : Applied) → v < length s.stages → length s.noted ≡ length s.stages
    → (world_of s).stages v ≡ at.Applied x
    → world_of (with_note s v x) ≡ happens (plan_of s) (world_of s) (Note v)
note_world s v x there same stage =
    let stages = changed_at s.stages v at.Idle at.Idle there in
    let none : List Applied = [] in
    let noted = changed_at s.noted v (get_or s.noted v none ++ x ∷ []) none (omega arith) in
    (λ k. record {
      table = table_of_stripes s.stripes;
      owners = (world_of s).owners;
      claimed = s.claimed;
      counter = s.counter;
      stages = stages k;
      noted = noted k;
      applied = s.applied;
    })
    ∙ sym (ap (then_happens (plan_of s) (world_of s) (Note v)) stage)

pub note_held : (s : Schedule) (count v : ℕ) (x : Applied) → IsHeldSchedule s count → v < length s.stages
    → (world_of s).stages v ≡ at.Applied x → allows s (Note v) ≡ true
    → IsHeldSchedule (with_note s v x) (count + 1)
note_held s count v x is there stage allowed =
    let none : List Applied = [] in
    let long : length (set s.stages v at.Idle) ≡ length s.stages = length-set s.stages v at.Idle in
    let noted = changed_at s.noted v (get_or s.noted v none ++ x ∷ []) none (omega (arith, is.noted)) in
    record {
      few = is.few;
      stripes = is.stripes;
      owners = is.owners;
      noted = length-set s.noted v (get_or s.noted v none ++ x ∷ []) ∙ is.noted ∙ sym long;
      counted = ap (λ n. n + 1) is.counted ∙ sym (noted_more (world_of s).noted v (length s.stages) x there)
          ∙ ap (λ (f : ℕ → List Applied). noted_count f (length s.stages)) (sym noted)
          ∙ ap (noted_count (world_of (with_note s v x)).noted) (sym long);
      from_opening = is.from_opening;
      reached = reached_behind s (with_note s v x) (Note v) is.reached allowed (note_plan s v x)
          (note_world s v x there is.noted stage);
      rows = is.rows;
      timely = λ i small. timely_stage s.counter s.counter v at.Idle (get_or s.owners i None) s.stages
          (stripe_at s.stripes i).greatest there (omega arith)
          (λ j n e. absurd (idle_not_ticked j n e)) (is.timely i small);
    }

-- ---- what is applied

-- a worker with a tick owns what it needs
tick_ready : (s : Schedule) (count v i n : ℕ) (is : IsHeldSchedule s count) → v < length s.stages
    → (world_of s).stages v
    ≡ at.Ticked i n
    → IsReady (plan_of s) s.counter (current_group (plan_of s) (world_of s)) (world_of s).owners
    (reached_kept (plan_of s) (world_of s) is.reached).history v (at.Ticked i n)
tick_ready s count v i n is there stage =
    let kept = reached_kept (plan_of s) (world_of s) is.reached in
    subst (IsReady (plan_of s) s.counter (current_group (plan_of s) (world_of s)) (world_of s).owners kept.history v)
    stage (kept.holds.ready v there)

-- its tick is above what its stripes have had
pub above_owned : (s : Schedule) (count v i n : ℕ) → IsHeldSchedule s count → v < length s.stages
    → (world_of s).stages v
    ≡ at.Ticked i n → (k : ℕ)
    → needs s.names (planned_request (plan_of s) i) k ≡ true → is_above n (stripe_at s.stripes k).greatest ≡ true
above_owned s count v i n is there stage k need =
    let small : k < STRIPES = needs_small s.names (planned_request (plan_of s) i) k need in
    (is.timely k small).owned v i n stage ((tick_ready s count v i n is there stage).2 k small need)

-- no row is at the greatest version: a request raises a version by 1 at most, and there are few requests
reordering_length : {A : Type 0} (xs ys : List A) → IsReordering xs ys → length xs ≡ length ys
reordering_length [] ys same = ap length (sym same)
reordering_length {A} (x ∷ xs) ys r =
    let prefix : List A = r.0 in
    let back : List A = r.1 in
    let rest : length xs ≡ length (prefix ++ back) = reordering_length xs (prefix ++ back) r.3 in
    let whole : length ys ≡ length (prefix ++ x ∷ back) = ap length r.2 in
    omega (arith, length-append prefix back, length-append prefix (x ∷ back))

pub fresh_rows : (s : Schedule) (count : ℕ) → IsHeldSchedule s count → AreFresh (table_of_stripes s.stripes)
fresh_rows s count is row =
    let kept = reached_kept (plan_of s) (world_of s) is.reached in
    let xs : List Executed = executed (plan_of s) kept.history in
    let low : (base_of s.stripes row).version ≤ 0 = omega (arith, is.from_opening row) in
    let few : (table_after_all (visible_at (base_of s.stripes) []) xs row).version ≤ 0 + length xs =
    few_versions (visible_at (base_of s.stripes) []) xs row 0 kept.holds.follows low in
    let as_many : length xs ≡ length kept.history = length-map kept.history (executed_record (plan_of s)) in
    let same : length s.applied ≡ length kept.history = reordering_length s.applied kept.history kept.same in
    let now : (table_of_stripes s.stripes row).version
    ≡ (table_after_all (visible_at (base_of s.stripes) []) xs row).version =
    ap (λ (t : Table). (t row).version) kept.holds.table in
    omega (arith, is.few, kept.counts.applied, kept.counts.ticked, kept.counts.within)

-- ---- what is made

-- the stripes after a record
pub record IsMadeOn (s : Schedule) (v i n : ℕ) (x : Applied) (ss : List Stripe) : Type 0 where
  pub long : length ss ≡ length s.stripes
  pub exact : x ≡ record_made (plan_of s) (world_of s) v i n
  pub table : table_of_stripes ss ≡ table_after (table_of_stripes s.stripes) x.entries
  pub kept : (k : ℕ) → IsKeptAt n (needs s.names (planned_request (plan_of s) i) k) (stripe_at s.stripes k)
      (stripe_at ss k)

abbrev pub with_made : Schedule → ℕ → Applied → List Stripe → Schedule
with_made s v x ss = record s {
  stripes = ss;
  stages = set s.stages v (at.Applied x);
  applied = placed_by_tick x s.applied;
}

base_kept : (s : Schedule) (v i n : ℕ) (x : Applied) (ss : List Stripe) → IsMadeOn s v i n x ss → base_of ss
    ≡ base_of s.stripes
base_kept s v i n x ss on = fun_ext (λ row. ap (λ b. table_in b row) (on.kept (stripe_of row)).base)

pub made_plan : (s : Schedule) (v i n : ℕ) (x : Applied) (ss : List Stripe) → IsMadeOn s v i n x ss
    → plan_of (with_made s v x ss) ≡ plan_of s
made_plan s v i n x ss on =
    let base = base_kept s v i n x ss on in
    let long : length (set s.stages v (at.Applied x)) ≡ length s.stages = length-set s.stages v (at.Applied x) in
    (λ k. record { names = s.names; base = base k; sizes = s.sizes; requests = s.requests; workers = long k })

pub made_world : (s : Schedule) (v i n : ℕ) (x : Applied) (ss : List Stripe) → IsMadeOn s v i n x ss
    → v < length s.stages → (world_of s).stages v ≡ at.Ticked i n
    → world_of (with_made s v x ss) ≡ happens (plan_of s) (world_of s) (Apply v)
made_world s v i n x ss on there stage =
    let stages = changed_at s.stages v (at.Applied x) at.Idle there in
    let table = on.table in
    let first : world_of (with_made s v x ss) ≡ with_applied (world_of s) v x =
    (λ k. record {
      table = table k;
      owners = (world_of s).owners;
      claimed = s.claimed;
      counter = s.counter;
      stages = stages k;
      noted = (world_of s).noted;
      applied = placed_by_tick x s.applied;
    }) in
    first ∙ ap (with_applied (world_of s) v) on.exact ∙ sym (ap (then_happens (plan_of s) (world_of s) (Apply v)) stage)

pub made_held : (s : Schedule) (count v i n : ℕ) (x : Applied) (ss : List Stripe) → IsMadeOn s v i n x ss
    → IsHeldSchedule s count → v < length s.stages → (world_of s).stages v ≡ at.Ticked i n
    → allows s (Apply v) ≡ true → IsHeldSchedule (with_made s v x ss) count
made_held s count v i n x ss on is there stage allowed =
    let long : length (set s.stages v (at.Applied x)) ≡ length s.stages = length-set s.stages v (at.Applied x) in
    let ready = tick_ready s count v i n is there stage in
    record {
      few = is.few;
      stripes = on.long ∙ is.stripes;
      owners = is.owners;
      noted = is.noted ∙ sym long;
      counted = is.counted ∙ ap (noted_count (world_of s).noted) (sym long);
      from_opening = λ row. ap (λ (t : Table). (t row).version) (base_kept s v i n x ss on) ∙ is.from_opening row;
      reached = reached_behind s (with_made s v x ss) (Apply v) is.reached allowed (made_plan s v i n x ss on)
          (made_world s v i n x ss on there stage);
      rows = λ k row small. ap (λ b. lies_in b row) (on.kept k).base ∙ is.rows k row small;
      timely = λ k small. timely_applied s.counter v n x (get_or s.owners k None) s.stages
          (needs s.names (planned_request (plan_of s) i) k) (stripe_at s.stripes k).greatest (stripe_at ss k).greatest
          there ready.0 (ready.2 k small) (on.kept k).greatest (is.timely k small);
    }

-- ---- owners and orders

pub is_taken : (o : Option ℕ) → is_some o ≡ true → is_none o ≡ false
is_taken None e = absurd (false≢true e)
is_taken (Some v) e = refl

pub is_nobodys : {A : Type 0} (o : Option A) → is_some o ≡ false → is_none o ≡ true
is_nobodys None e = refl
is_nobodys (Some v) e = absurd (false≢true (sym e))

pub ticks_rise : (s : Schedule) (count : ℕ) → IsHeldSchedule s count → EachBefore (λ x y. x.tick < y.tick) s.applied
ticks_rise s count is = (reached_kept (plan_of s) (world_of s) is.reached).rises
