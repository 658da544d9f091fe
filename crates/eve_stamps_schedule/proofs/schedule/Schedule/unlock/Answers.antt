use Rattle.std.proofs.Common.{◌≡◌, ℕ, ◌<◌, true, List, length, get_or, Option, Some, None, is_some, refl, sym, subst}
use Rattle.std.proofs.Common.{ap, ◌∙◌, arith}
use Rattle.eve_stamps_schedule.specs.declared.event.Event.TheVariants.{Unlock}
use Rattle.eve_stamps_schedule.specs.declared.stage.Stage.TheVariants as at
use Rattle.eve_stamps_schedule.specs.Events.{happens}
use Rattle.eve_stamps_schedule.specs.Schedule.{Schedule, plan_of, world_of, allows}
use Rattle.eve_stamps_schedule.specs.Scheduled.{schedule_of}
use Rattle.eve_stamps.specs.declared.limits.TheConstants.{STRIPES}
use Rattle.eve_stamps_schedule.specs.Stripes.{greatest_below}
use Rattle.eve_stamps_schedule.specs.Events.{is_owner, last_stripe}
use Rattle.eve_stamps_schedule.proofs.Changes.{greatest_small}
use Rattle.eve_stamps_schedule.proofs.ScheduleSteps.{allowed_by, unlock_held, unlock_world, with_lock}
use Rattle.eve_stamps_schedule.proofs.schedule.Schedule.unlock.Goals.{In-Some}
use Rattle.eve_stamps_schedule.proofs.schedule.Schedule.unlock.Goals as goal

-- the worker is there, and has applied
there : (c : In-Some) → c.args.worker < length (schedule_of c.self.inside).stages
there c = subst (λ (t : Schedule). c.args.worker < length t.stages) (sym c.self.view_is) c.requires.there

stage : (c : In-Some) → (world_of (schedule_of c.self.inside)).stages c.args.worker ≡ at.Applied c.in-Applied.field-0
stage c =
    ap (λ (t : Schedule). (world_of t).stages c.args.worker) c.self.view_is ∙ sym c.stage.ensures.stage
    ∙ c.in-Applied.is

-- the stripe is the highest that it owns, and one of the sixteen
last : (c : In-Some) → last_stripe (world_of (schedule_of c.self.inside)) c.args.worker ≡ Some c.in-Some.stripe
last c =
    ap (λ (os : List (Option ℕ)). greatest_below STRIPES (λ j. is_owner c.args.worker (get_or os j None)))
    (sym c.as_slice.ensures.value)
    ∙ sym c.last_stripe.ensures ∙ c.in-Some.is

within : (c : In-Some) → c.in-Some.stripe < length (schedule_of c.self.inside).owners
within c =
    let s : Schedule = schedule_of c.self.inside in
    let small : c.in-Some.stripe < STRIPES =
    greatest_small STRIPES (λ j. is_owner c.args.worker ((world_of s).owners j)) c.in-Some.stripe (last c) in
    omega (arith, c.self.invariant.owners)

allowed : (c : In-Some) → allows (schedule_of c.self.inside) (Unlock c.args.worker) ≡ true
allowed c =
    allowed_by (schedule_of c.self.inside) (Unlock c.args.worker) (at.Applied c.in-Applied.field-0) (there c) (stage c)
    (ap is_some (last c))

pub index_mut-requires : goal.index_mut-requires
index_mut-requires c =
    let here : In-Some = (goal.at.index_mut-requires c).In-Some in
    let there : c.in-Some.stripe < length (schedule_of c.self.inside).owners = within here in
    omega (arith, c.self.inside.owners.ok.0)

pub invariant_of-self : goal.invariant_of-self
invariant_of-self c =
    let here : In-Some = (goal.at.invariant_of-self c).In-Some in
    unlock_held (schedule_of c.self.inside) c.self.inside.noted_count c.args.worker c.in-Some.stripe
    c.in-Applied.field-0 c.self.invariant (within here) (stage here) (last here) (allowed here)

pub returns : goal.returns
returns c =
    let here : In-Some = (goal.at.returns c).In-Some in
    let s : Schedule = schedule_of c.self.inside in
    let w : ℕ = c.args.worker in
    let k : ℕ = c.in-Some.stripe in
    subst (λ (t : Schedule). (allows t (Unlock w) ≡ true) × (plan_of (with_lock s k None) ≡ plan_of t)
    × (world_of (with_lock s k None) ≡ happens (plan_of t) (world_of t) (Unlock w))) c.self.view_is
    (allowed here, refl, unlock_world s w k c.in-Applied.field-0 (within here) (stage here) (last here))
