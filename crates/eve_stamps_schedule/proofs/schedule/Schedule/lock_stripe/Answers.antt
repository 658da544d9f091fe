use Rattle.std.proofs.Common.{◌≡◌, ℕ, ◌+◌, ◌<◌, true, false, length, get_or, Option, Some, None, is_none, refl, sym}
use Rattle.std.proofs.Common.{subst, ap, ◌∙◌, arith}
use Rattle.eve_stamps_schedule.specs.declared.event.Event.TheVariants.{LockStripe}
use Rattle.eve_stamps_schedule.specs.declared.stage.Stage.TheVariants as at
use Rattle.eve_stamps_schedule.specs.Events.{happens}
use Rattle.eve_stamps_schedule.specs.Schedule.{Schedule, plan_of, world_of, allows}
use Rattle.eve_stamps_schedule.specs.Scheduled.{schedule_of}
use Rattle.std.proofs.Common.{◌&&◌, not}
use Rattle.std.proofs.lemmas.List.{get_or_default}
use Rattle.eve_stamps.specs.declared.limits.TheConstants.{STRIPES}
use Rattle.eve_stamps_schedule.specs.Events.{is_owner, is_free, needs_at, next_stripe}
use Rattle.eve_stamps_schedule.proofs.Changes.{least_small}
use Rattle.eve_stamps_schedule.proofs.ScheduleSteps.{allowed_by, refused_by, lock_held, lock_world, with_lock, is_taken}
use Rattle.eve_stamps_schedule.proofs.ScheduleSteps.{is_nobodys}
use Rattle.eve_stamps_schedule.proofs.schedule.Schedule.lock_stripe.Goals.{In-Some}
use Rattle.eve_stamps_schedule.proofs.schedule.Schedule.lock_stripe.Goals as goal

-- the worker is there, and has claimed
there : (c : In-Some) → c.args.worker < length (schedule_of c.self.inside).stages
there c = subst (λ (t : Schedule). c.args.worker < length t.stages) (sym c.self.view_is) c.requires.there

stage : (c : In-Some) → (world_of (schedule_of c.self.inside)).stages c.args.worker ≡ at.Claimed c.in-Claimed.index
stage c =
    ap (λ (t : Schedule). (world_of t).stages c.args.worker) c.self.view_is ∙ sym c.stage.ensures.stage
    ∙ c.in-Claimed.is

-- the stripe is the next one, and one of the sixteen
next : (c : In-Some) → next_stripe (plan_of (schedule_of c.self.inside)) (world_of (schedule_of c.self.inside))
    c.args.worker c.in-Claimed.index ≡ Some c.in-Some.stripe
next c =
    ap (λ (t : Schedule). next_stripe (plan_of t) (world_of t) c.args.worker c.in-Claimed.index) c.self.view_is
    ∙ sym c.next_stripe.ensures ∙ c.in-Some.is

within : (c : In-Some) → c.in-Some.stripe < length (schedule_of c.self.inside).owners
within c =
    let s : Schedule = schedule_of c.self.inside in
    let small : c.in-Some.stripe < 0 + STRIPES =
    least_small 0 STRIPES
    (λ j. needs_at (plan_of s) c.in-Claimed.index j && not (is_owner c.args.worker ((world_of s).owners j)))
    c.in-Some.stripe (next c) in
    omega (arith, c.self.invariant.owners)

-- whether it is free hangs on its owner
owner : (c : In-Some) (o : Option ℕ) → get_or (schedule_of c.self.inside).owners c.in-Some.stripe None ≡ o
    → is_free (world_of (schedule_of c.self.inside))
    (next_stripe (plan_of (schedule_of c.self.inside)) (world_of (schedule_of c.self.inside)) c.args.worker
    c.in-Claimed.index) ≡ is_none o
owner c o is = ap (is_free (world_of (schedule_of c.self.inside))) (next c) ∙ ap is_none is

pub index-requires : goal.index-requires
index-requires c =
    let here : In-Some = (goal.at.index-requires c).In-Some in
    let there : c.in-Some.stripe < length (schedule_of c.self.inside).owners = within here in
    omega (arith, c.self.inside.owners.ok.0)

pub index_mut-requires : goal.index_mut-requires
index_mut-requires c =
    let here : In-Some = (goal.at.index_mut-requires c).In-Some in
    let there : c.in-Some.stripe < length (schedule_of c.self.inside).owners = within here in
    omega (arith, c.self.inside.owners.ok.0)

pub returns-then-is_some : goal.returns-then-is_some
returns-then-is_some c =
    let here : In-Some = (goal.at.returns-then-is_some c).In-Some in
    let taken = owner here c.index.result.now
    (get_or_default (schedule_of c.self.inside).owners c.in-Some.stripe None c.index.result.now (within here)
    ∙ sym c.index.ensures) ∙ is_taken c.index.result.now (sym c.is_some.ensures ∙ c.if-is_some.true) in (
      subst (λ (t : Schedule). allows t (LockStripe c.args.worker) ≡ false) c.self.view_is
          (refused_by (schedule_of c.self.inside) (LockStripe c.args.worker) (at.Claimed c.in-Claimed.index)
          (stage here) taken),
      refl,
    )

pub invariant_of-self : goal.invariant_of-self
invariant_of-self c =
    let here : In-Some = (goal.at.invariant_of-self c).In-Some in
    let s : Schedule = schedule_of c.self.inside in
    let w : ℕ = c.args.worker in
    let i : ℕ = c.in-Claimed.index in
    let free = owner here c.index.result.now
    (get_or_default (schedule_of c.self.inside).owners c.in-Some.stripe None c.index.result.now (within here)
    ∙ sym c.index.ensures) ∙ is_nobodys c.index.result.now (sym c.is_some.ensures ∙ c.if-is_some.false) in
    let allowed : allows s (LockStripe w) ≡ true =
    allowed_by s (LockStripe w) (at.Claimed i) (there here) (stage here) free in
    lock_held s c.self.inside.noted_count w i c.in-Some.stripe c.self.invariant
    (within here) (stage here) (next here) allowed

pub returns : goal.returns
returns c =
    let here : In-Some = (goal.at.returns c).In-Some in
    let s : Schedule = schedule_of c.self.inside in
    let w : ℕ = c.args.worker in
    let i : ℕ = c.in-Claimed.index in
    let k : ℕ = c.in-Some.stripe in
    let free = owner here c.index.result.now
    (get_or_default (schedule_of c.self.inside).owners c.in-Some.stripe None c.index.result.now (within here)
    ∙ sym c.index.ensures) ∙ is_nobodys c.index.result.now (sym c.is_some.ensures ∙ c.if-is_some.false) in
    let allowed : allows s (LockStripe w) ≡ true =
    allowed_by s (LockStripe w) (at.Claimed i) (there here) (stage here) free in
    subst (λ (t : Schedule). (allows t (LockStripe w) ≡ true) × (plan_of (with_lock s k (Some w)) ≡ plan_of t)
    × (world_of (with_lock s k (Some w)) ≡ happens (plan_of t) (world_of t) (LockStripe w))) c.self.view_is
    (allowed, refl, lock_world s w i k (within here) (stage here) (next here))
