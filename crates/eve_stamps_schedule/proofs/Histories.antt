-- Each event keeps what holds of the history.
use Rattle.std.proofs.Common.{◌≡◌, ℕ, ◌+◌, ◌<◌, ◌≤◌, true, not, ◌&&◌, ◌==◌, nat_lt, List, [], ◌∷◌, ◌++◌, length}
use Rattle.std.proofs.Common.{Option, Some, None, is_none, inl, inr, refl, sym, subst, ap, ◌∙◌, arith}
use Rattle.std.specs.List.{AllByRecursion}
use Rattle.std.proofs.lemmas.Bool.{and_parts, and_cases, eqb-true, false≢true, true≢false, not-false}
use Rattle.std.proofs.lemmas.List.{map-append}
use Rattle.eve_smallbank.specs.SmallBank.{does}
use Rattle.eve_smallbank.specs.Access.{rows_of, noted_rows, bank_of}
use Rattle.eve_smallbank.specs.Chain.{Table, Sees, table_after, table_after_all, values_of, visible_at}
use Rattle.eve_smallbank.proofs.Chains.{Follows, follows-push, table_after_all-push}
use Rattle.eve_smallbank.proofs.Records.{noted_sees}
use Rattle.eve_grammar.specs.Certificate.{group_of}
use Rattle.eve_grammar.proofs.Lists.{all-weaker, all-push}
use Rattle.eve_stamps.specs.Applied.{Applied}
use Rattle.eve_stamps_schedule.specs.declared.event.Event.TheVariants.{Claim, Tick}
use Rattle.eve_stamps_schedule.specs.declared.stage.Stage.{Stage}
use Rattle.eve_stamps_schedule.specs.declared.stage.Stage.TheVariants as at
use Rattle.eve_stamps.specs.declared.limits.TheConstants.{STRIPES}
use Rattle.eve_stamps_schedule.specs.ListOrder.{EachBefore}
use Rattle.eve_stamps_schedule.specs.World.{Plan, World, planned_request, executed_record, noted_count}
use Rattle.eve_stamps_schedule.specs.Events.{changed, current_group, may_claim, is_owner, needs_at, next_stripe}
use Rattle.eve_stamps_schedule.specs.Events.{last_stripe, is_free, with_owner, record_made, with_applied, with_noted}
use Rattle.eve_stamps_schedule.specs.Events.{then_happens}
use Rattle.eve_stamps_schedule.proofs.Changes.{below_itself, at_change, changed-other, counted-at_least}
use Rattle.eve_stamps_schedule.proofs.Changes.{greatest_passes, none_passes}
use Rattle.eve_stamps_schedule.proofs.WorldInvariant.{flag, held, is_busy, Counts, Bound, IsMade, IsReady, executed}
use Rattle.eve_stamps_schedule.proofs.WorldInvariant.{Holds}
use Rattle.eve_stamps_schedule.proofs.EventCounts.{counts_note, current_later}

-- ---- lists

each_before-push : {A : Type 0} (R : A → A → Type 0) (xs : List A) (x : A) → EachBefore R xs
    → AllByRecursion (λ y. R y x) xs → EachBefore R (xs ++ x ∷ [])
each_before-push R [] x each all = (tt, tt)
each_before-push R (y ∷ xs) x each all = (all-push (R y) xs x each.0 all.0, each_before-push R xs x each.1 all.1)

-- ---- workers that wait

-- with a counter that didn't fall
ready_later : (p : Plan) (m n current : ℕ) (owners : ℕ → Option ℕ) (history : List Applied) (v : ℕ) (stage : Stage)
    → m ≤ n
    → IsReady p m current owners history v stage → IsReady p n current owners history v stage
ready_later p m n current owners history v at.Idle h ready = tt
ready_later p m n current owners history v (at.Claimed i) h ready = ready
ready_later p m n current owners history v (at.Ticked i k) h ready =
    let below : k < m = ready.0 in
    (omega arith, ready.1, ready.2, ready.3)
ready_later p m n current owners history v (at.Applied x) h ready = tt

-- with another current parallelBatch, where no worker that is busy would notice
ready_current : (p : Plan) (counter m n : ℕ) (owners : ℕ → Option ℕ) (history : List Applied) (v : ℕ) (stage : Stage)
    → (is_busy stage ≡ true → m ≡ n)
    → IsReady p counter m owners history v stage → IsReady p counter n owners history v stage
ready_current p counter m n owners history v at.Idle h ready = tt
ready_current p counter m n owners history v (at.Claimed i) h ready = ready ∙ h refl
ready_current p counter m n owners history v (at.Ticked i k) h ready = (ready.0, ready.1 ∙ h refl, ready.2, ready.3)
ready_current p counter m n owners history v (at.Applied x) h ready = tt

-- with other owners, where no stripe was taken from the worker
ready_owned : (p : Plan) (n current : ℕ) (owners others : ℕ → Option ℕ) (history : List Applied) (v : ℕ) (stage : Stage)
    → ((i k s : ℕ) → stage ≡ at.Ticked i k → is_owner v (owners s) ≡ true → is_owner v (others s) ≡ true)
    → IsReady p n current owners history v stage → IsReady p n current others history v stage
ready_owned p n current owners others history v at.Idle h ready = tt
ready_owned p n current owners others history v (at.Claimed i) h ready = ready
ready_owned p n current owners others history v (at.Ticked i k) h ready =
    (ready.0, ready.1, (λ s l need. h i k s refl (ready.2 s l need)), ready.3)
ready_owned p n current owners others history v (at.Applied x) h ready = tt

-- with one more record, which doesn't bind the worker's
ready_applied : (p : Plan) (n current : ℕ) (owners : ℕ → Option ℕ) (history : List Applied) (x : Applied) (v : ℕ)
    (stage : Stage)
    → ((i k : ℕ) → stage ≡ at.Ticked i k → IsReady p n current owners history v (at.Ticked i k) → ¬ Bound p x.index i)
    → IsReady p n current owners history v stage
    → IsReady p n current owners (history ++ x ∷ []) v stage
ready_applied p n current owners history x v at.Idle h ready = tt
ready_applied p n current owners history x v (at.Claimed i) h ready = ready
ready_applied p n current owners history x v (at.Ticked i k) h ready = (
  ready.0,
  ready.1,
  ready.2,
  all-push (λ y. Bound p y.index i → y.tick < k) history x ready.3
      (λ bound. absurd (h i k refl ready bound)),
)
ready_applied p n current owners history x v (at.Applied y) h ready = tt

-- ---- owners

not_both : (v : ℕ) (o : Option ℕ) → is_none o ≡ true → is_owner v o ≡ true → ⊥
not_both v None h k = false≢true k
not_both v (Some u) h k = false≢true h

pub one_owner : (u v : ℕ) (o : Option ℕ) → is_owner u o ≡ true → is_owner v o ≡ true → u ≡ v
one_owner u v None h k = absurd (false≢true h)
one_owner u v (Some w) h k = sym (eqb-true w u h) ∙ eqb-true w v k

-- a worker that needs no further stripe owns those that it needs
owned : (p : Plan) (w : World) (v i s : ℕ) → is_none (next_stripe p w v i) ≡ true → s < STRIPES → needs_at p i s
    ≡ true → is_owner v (w.owners s) ≡ true
owned p w v i s none l need =
    elim (and_cases (needs_at p i s) (not (is_owner v (w.owners s)))
    (none_passes 0 STRIPES (λ r. needs_at p i r && not (is_owner v (w.owners r))) none s (omega arith) l)) [
      | inl e ↦ absurd (true≢false (sym need ∙ e))
      | inr e ↦ not-false (is_owner v (w.owners s)) e
    ]

-- ---- events

-- what holds of the history holds of a later world with the same table, in which each worker is ready still
holds_later : (p : Plan) (w later : World) (history : List Applied) → later.table ≡ w.table
    → w.counter ≤ later.counter → current_group p w ≤ current_group p later
    → ((u : ℕ) → u < p.workers
    → IsReady p later.counter (current_group p later) later.owners history u (later.stages u))
    → Holds p w history → Holds p later history
holds_later p w later history table counter group ready holds = record {
  made = holds.made;
  follows = holds.follows;
  table = table ∙ holds.table;
  below = all-weaker (λ x. x.tick < w.counter) (λ x. x.tick < later.counter) history
      (λ x l. omega (arith, l, counter)) holds.below;
  ordered = holds.ordered;
  grouped = holds.grouped;
  passed = all-weaker (λ x. group_of p.sizes x.index ≤ current_group p w)
      (λ x. group_of p.sizes x.index ≤ current_group p later) history (λ x l. omega (arith, l, group)) holds.passed;
  ready = ready;
}

pub holds_claim : (p : Plan) (w : World) (v : ℕ) (history : List Applied) → may_claim p w ≡ true
    → Holds p w history → Holds p (then_happens p w (Claim v) at.Idle) history
holds_claim p w v history may holds =
    holds_later p w (then_happens p w (Claim v) at.Idle) history refl (omega arith) (omega arith)
    (λ u l. at_change (λ k s. IsReady p w.counter (current_group p w) w.owners history k s) w.stages v
    (at.Claimed w.claimed) u
    (eqb-true (group_of p.sizes w.claimed) (current_group p w)
    (and_parts (nat_lt w.claimed (length p.requests)) (group_of p.sizes w.claimed == current_group p w) may).1)
    (λ _. holds.ready u l)) holds

-- a stripe that nobody owns is taken
pub holds_lock : (p : Plan) (w : World) (v : ℕ) (o : Option ℕ) (history : List Applied) → is_free w o ≡ true
    → Holds p w history → Holds p (with_owner w o (Some v)) history
holds_lock p w v None history h holds = holds
holds_lock p w v (Some s) history h holds =
    holds_later p w (with_owner w (Some s) (Some v)) history refl (omega arith) (omega arith)
    (λ u l. ready_owned p w.counter (current_group p w) w.owners (changed w.owners s (Some v)) history u (w.stages u)
    (λ i k r _ own. at_change (λ j owner. is_owner u (w.owners j) ≡ true → is_owner u owner ≡ true) w.owners s
    (Some v) r (λ own'. absurd (not_both u (w.owners s) h own')) (λ _ own'. own') own) (holds.ready u l)) holds

applied_not_ticked : (x : Applied) (i k : ℕ) (stage : Stage) → stage ≡ at.Applied x → stage ≡ at.Ticked i k → ⊥
applied_not_ticked x i k stage e f = cc

-- a worker that has applied gives a stripe back
pub holds_unlock : (p : Plan) (w : World) (v : ℕ) (x : Applied) (o : Option ℕ) (history : List Applied)
    → w.stages v ≡ at.Applied x → last_stripe w v ≡ o → Holds p w history
    → Holds p (with_owner w o None) history
holds_unlock p w v x None history stage e holds = holds
holds_unlock p w v x (Some s) history stage e holds =
    let own = greatest_passes STRIPES (λ r. is_owner v (w.owners r)) s e in
    holds_later p w (with_owner w (Some s) None) history refl (omega arith) (omega arith)
    (λ u l. ready_owned p w.counter (current_group p w) w.owners (changed w.owners s None) history u (w.stages u)
    (λ i k r ticked mine. at_change (λ j owner. is_owner u (w.owners j) ≡ true → is_owner u owner ≡ true) w.owners s
    None r
    (λ mine'. absurd (applied_not_ticked x i k (w.stages u)
    (ap w.stages (one_owner u v (w.owners s) mine' own) ∙ stage) ticked))
    (λ _ mine'. mine') mine) (holds.ready u l)) holds

pub holds_tick : (p : Plan) (w : World) (v i : ℕ) (history : List Applied) → v < p.workers
    → w.stages v ≡ at.Claimed i → is_none (next_stripe p w v i) ≡ true → Holds p w history
    → Holds p (then_happens p w (Tick v) (at.Claimed i)) history
holds_tick p w v i history h stage none holds =
    let mine : IsReady p w.counter (current_group p w) w.owners history v (at.Claimed i) =
    subst (IsReady p w.counter (current_group p w) w.owners history v) stage (holds.ready v h) in
    holds_later p w (then_happens p w (Tick v) (at.Claimed i)) history refl (omega arith) (omega arith)
    (λ u l. at_change (λ k s. IsReady p (w.counter + 1) (current_group p w) w.owners history k s) w.stages v
    (at.Ticked i w.counter) u (
      omega arith,
      mine,
      (λ s low need. owned p w v i s none low need),
      all-weaker (λ x. x.tick < w.counter) (λ x. Bound p x.index i → x.tick < w.counter) history (λ x b _. b)
          holds.below,
    )
    (λ _. ready_later p w.counter (w.counter + 1) (current_group p w) w.owners history u (w.stages u) (omega arith)
    (holds.ready u l))) holds

-- no other worker that has its tick is bound by what this one applies
apart : (p : Plan) (w : World) (v i : ℕ) (history : List Applied) → group_of p.sizes i ≡ current_group p w
    → ((s : ℕ) → s < STRIPES → needs_at p i s ≡ true → is_owner v (w.owners s) ≡ true)
    → (u j k : ℕ) → IsReady p w.counter (current_group p w) w.owners history u (at.Ticked j k) → ¬ (u ≡ v)
    → ¬ Bound p i j
apart p w v i history group own u j k other ne (inl share) =
    ne (one_owner u v (w.owners share.0) (other.2 share.0 share.1 share.3) (own share.0 share.1 share.2))
apart p w v i history group own u j k other ne (inr less) = below_itself (group ∙ sym other.1) less

-- the record of a worker that has its tick is the last of all that bind it
pub holds_apply : (p : Plan) (w : World) (v i n : ℕ) (history : List Applied) → v < p.workers → w.stages v
    ≡ at.Ticked i n → Holds p w history
    → Holds p (with_applied w v (record_made p w v i n)) (history ++ record_made p w v i n ∷ [])
holds_apply p w v i n history h stage holds =
    let x : Applied = record_made p w v i n in
    let mine : IsReady p w.counter (current_group p w) w.owners history v (at.Ticked i n) =
    subst (IsReady p w.counter (current_group p w) w.owners history v) stage (holds.ready v h) in
    let sees = noted_sees p.names w.table (does (bank_of p.names (values_of w.table)) (planned_request p i)).0
    (noted_rows (does (bank_of p.names (values_of w.table)) (planned_request p i)).1
    (rows_of p.names (planned_request p i))) in
    let pushed : executed p (history ++ x ∷ []) ≡ executed p history ++ executed_record p x ∷ [] =
    map-append (executed_record p) history (x ∷ []) in
    let first : group_of p.sizes i ≡ current_group p w = mine.1 in
    record {
      made = all-push (IsMade p) history x holds.made (w.table, refl);
      follows = subst (Follows (visible_at p.base [])) (sym pushed)
          (follows-push (visible_at p.base []) (executed p history) (executed_record p x) holds.follows
          (subst (λ t. AllByRecursion (Sees t) x.entries) holds.table sees));
      table = ap (λ (t : Table). table_after t x.entries) holds.table
          ∙ sym (ap (table_after_all (visible_at p.base [])) pushed
          ∙ table_after_all-push (visible_at p.base []) (executed p history) (executed_record p x));
      below = all-push (λ y. y.tick < w.counter) history x holds.below mine.0;
      ordered = each_before-push (λ y z. Bound p y.index z.index → y.tick < z.tick) history x holds.ordered mine.3;
      grouped = each_before-push (λ y z. group_of p.sizes y.index ≤ group_of p.sizes z.index) history x holds.grouped
          (all-weaker (λ y. group_of p.sizes y.index ≤ current_group p w)
          (λ y. group_of p.sizes y.index ≤ group_of p.sizes i) history (λ y l. omega (arith, first, l))
          holds.passed);
      passed = all-push (λ y. group_of p.sizes y.index ≤ current_group p w) history x holds.passed
          (omega (arith, first));
      ready = λ u l. at_change (λ k s. IsReady p w.counter (current_group p w) w.owners (history ++ x ∷ []) k s)
          w.stages v (at.Applied x) u tt
          (λ other. ready_applied p w.counter (current_group p w) w.owners history x u (w.stages u)
          (λ j k _ ready. apart p w v i history mine.1 mine.2 u j k ready other) (holds.ready u l));
    }

-- while a worker is busy, the current parallelBatch stays
stays : (p : Plan) (w : World) (v : ℕ) (x : Applied) (u : ℕ) → v < p.workers → u < p.workers → ¬ (u ≡ v) → w.stages v
    ≡ at.Applied x → is_busy (w.stages u) ≡ true → Counts p w
    → current_group p w ≡ current_group p (with_noted w v x)
stays p w v x u h l ne stage busy c =
    let later = counts_note p w v x h stage c in
    let one : 1 ≤ held is_busy (changed w.stages v at.Idle) p.workers =
    subst (λ k. k ≤ held is_busy (changed w.stages v at.Idle) p.workers)
    (ap (λ s. flag (is_busy s)) (changed-other w.stages v at.Idle u ne) ∙ ap flag busy)
    (counted-at_least (λ s. flag (is_busy s)) (changed w.stages v at.Idle) u p.workers l) in
    let there : noted_count (changed w.noted v (w.noted v ++ x ∷ [])) p.workers < w.claimed =
    omega (arith, later.claimed, one) in
    let low : current_group p (with_noted w v x) ≤ current_group p w =
    c.current (noted_count (changed w.noted v (w.noted v ++ x ∷ [])) p.workers) there in
    let high : current_group p w ≤ current_group p (with_noted w v x) = current_later p w v x h in
    omega arith

pub holds_note : (p : Plan) (w : World) (v : ℕ) (x : Applied) (history : List Applied) → v < p.workers
    → w.stages v ≡ at.Applied x → Counts p w → Holds p w history
    → Holds p (with_noted w v x) history
holds_note p w v x history h stage c holds =
    holds_later p w (with_noted w v x) history refl (omega arith) (current_later p w v x h)
    (λ u l. at_change (λ k s. IsReady p w.counter (current_group p (with_noted w v x)) w.owners history k s) w.stages v
    at.Idle u tt
    (λ other. ready_current p w.counter (current_group p w) (current_group p (with_noted w v x)) w.owners history u
    (w.stages u) (λ busy. stays p w v x u h l other stage busy c) (holds.ready u l))) holds
