-- The records of each worker are its own, in the order of their places.
use Rattle.std.proofs.Common.{◌≡◌, ℕ, ◌+◌, true, List, [], ◌∷◌, ◌++◌, length, Some, None, inl, inr, refl, sym, subst}
use Rattle.std.proofs.Common.{ap, ◌∙◌, arith}
use Rattle.std.proofs.lemmas.Bool.{cases_eq, and_parts, false≢true}
use Rattle.std.proofs.lemmas.List.{append-nil}
use Rattle.eve_stamps.specs.Applied.{Applied}
use Rattle.eve_stamps_schedule.specs.declared.event.Event.{Event}
use Rattle.eve_stamps_schedule.specs.declared.event.Event.TheVariants.{Claim, LockStripe, Tick, Apply, Unlock, Note}
use Rattle.eve_stamps_schedule.specs.declared.stage.Stage.{Stage}
use Rattle.eve_stamps_schedule.specs.declared.stage.Stage.TheVariants as at
use Rattle.eve_stamps_schedule.specs.World.{Plan, World, first_world, pending, records_at}
use Rattle.eve_stamps_schedule.specs.Events.{worker_of, next_stripe, last_stripe, with_owner, record_made, with_applied}
use Rattle.eve_stamps_schedule.specs.Events.{with_noted, may, is_allowed_event, then_happens, happens, are_allowed}
use Rattle.eve_stamps_schedule.specs.Events.{world_after}
use Rattle.eve_stamps_schedule.specs.Serial.{IsReachedWorld, AreNotedBy}
use Rattle.eve_stamps_schedule.proofs.Changes.{changed-here, changed-other}
use Rattle.eve_stamps_schedule.proofs.WorkerRecords.{at_stage, at_owner, at_note}
use Rattle.std.specs.Prelude.{nat_lt}

AreNotedBy-push : (v k : ℕ) (xs : List Applied) (x : Applied) → AreNotedBy v k xs → x.worker ≡ v
    → x.place ≡ k + length xs → AreNotedBy v k (xs ++ x ∷ [])
AreNotedBy-push v k [] x noted worker place = (worker, omega arith, tt)
AreNotedBy-push v k (y ∷ xs) x noted worker place =
    (noted.0, noted.1, AreNotedBy-push v (k + 1) xs x noted.2 worker (omega arith))

-- of every worker
abbrev AreListed : World → Type 0
AreListed w = (u : ℕ) → AreNotedBy u 0 (records_at w u)

listed_alike : (w x : World) → ((u : ℕ) → records_at x u ≡ records_at w u) → AreListed w → AreListed x
listed_alike w x h listed u = subst (AreNotedBy u 0) (sym (h u)) (listed u)

listed_apply : (p : Plan) (w : World) (v i n : ℕ) → w.stages v ≡ at.Ticked i n → AreListed w
    → AreListed (with_applied w v (record_made p w v i n))
listed_apply p w v i n stage listed u =
    let x : Applied = record_made p w v i n in
    elim (cases_eq u v) [
      | inl e ↦
          let before : AreNotedBy v 0 (w.noted v) =
          subst (AreNotedBy v 0) (ap (λ s. w.noted v ++ pending s) stage ∙ append-nil (w.noted v)) (listed v) in
          let after : AreNotedBy v 0 (w.noted v ++ x ∷ []) = AreNotedBy-push v 0 (w.noted v) x before refl
          (omega arith) in
          let here : AreNotedBy v 0 (records_at (with_applied w v x) v) =
          subst (AreNotedBy v 0) (ap (λ s. w.noted v ++ pending s) (sym (changed-here w.stages v (at.Applied x))))
          after in
          subst (λ k. AreNotedBy k 0 (records_at (with_applied w v x) k)) (sym e) here
      | inr e ↦ subst (AreNotedBy u 0)
          (ap (λ s. w.noted u ++ pending s) (sym (changed-other w.stages v (at.Applied x) u e))) (listed u)
    ]

listed_event : (p : Plan) (w : World) (event : Event) (stage : Stage) → w.stages (worker_of event) ≡ stage
    → may p w event stage ≡ true → AreListed w → AreListed (then_happens p w event stage)
listed_event p w (Claim v) at.Idle stage allowed listed =
    listed_alike w (then_happens p w (Claim v) at.Idle)
    (at_stage w (then_happens p w (Claim v) at.Idle) v at.Idle (at.Claimed w.claimed) stage refl refl refl) listed
listed_event p w (LockStripe v) (at.Claimed i) stage allowed listed =
    listed_alike w (with_owner w (next_stripe p w v i) (Some v)) (at_owner w (next_stripe p w v i) (Some v)) listed
listed_event p w (Tick v) (at.Claimed i) stage allowed listed =
    listed_alike w (then_happens p w (Tick v) (at.Claimed i))
    (at_stage w (then_happens p w (Tick v) (at.Claimed i)) v (at.Claimed i) (at.Ticked i w.counter) stage refl refl
    refl) listed
listed_event p w (Apply v) (at.Ticked i n) stage allowed listed = listed_apply p w v i n stage listed
listed_event p w (Unlock v) (at.Applied x) stage allowed listed = listed_alike w (with_owner w (last_stripe w v) None)
    (at_owner w (last_stripe w v) None) listed
listed_event p w (Note v) (at.Applied x) stage allowed listed =
    listed_alike w (with_noted w v x) (at_note w v x stage) listed
listed_event p w _ _ stage allowed listed = absurd (false≢true allowed)

listed_events : (p : Plan) (w : World) (events : List Event) → are_allowed p w events ≡ true → AreListed w
    → AreListed (world_after p w events)
listed_events p w [] allowed listed = listed
listed_events p w (event ∷ events) allowed listed =
    let parts = and_parts (is_allowed_event p w event) (are_allowed p (happens p w event) events) allowed in
    let mine = and_parts (nat_lt (worker_of event) p.workers) (may p w event (w.stages (worker_of event))) parts.0 in
    listed_events p (happens p w event) events parts.1
    (listed_event p w event (w.stages (worker_of event)) refl mine.1 listed)

pub listed_reached : (p : Plan) (w : World) → IsReachedWorld p w → (v : ℕ) → AreNotedBy v 0 (records_at w v)
listed_reached p w reached = subst AreListed (sym reached.world)
    (listed_events p (first_world p) reached.events reached.allowed (λ u. tt))
