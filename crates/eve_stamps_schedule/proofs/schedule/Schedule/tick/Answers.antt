use Rattle.std.proofs.Common.{◌≡◌, ℕ, ◌<◌, true, length, is_none, sym, subst, ap, ◌∙◌, arith}
use Rattle.eve_stamps_schedule.specs.declared.event.Event.TheVariants.{Tick}
use Rattle.eve_stamps_schedule.specs.declared.stage.Stage.TheVariants as at
use Rattle.eve_stamps_schedule.specs.Events.{happens}
use Rattle.eve_stamps_schedule.specs.Schedule.{Schedule, plan_of, world_of, allows}
use Rattle.eve_stamps_schedule.specs.Scheduled.{schedule_of}
use Rattle.eve_stamps_schedule.specs.Events.{next_stripe}
use Rattle.eve_stamps_schedule.proofs.ScheduleSteps.{allowed_by, tick_held, tick_plan, tick_world, with_tick, few_ticks}
use Rattle.eve_stamps_schedule.proofs.schedule.Schedule.tick.Goals.{After-owns_all}
use Rattle.eve_stamps_schedule.proofs.schedule.Schedule.tick.Goals as goal

-- the worker is there, and has claimed
there : (c : After-owns_all) → c.args.worker < length (schedule_of c.self.inside).stages
there c = subst (λ (t : Schedule). c.args.worker < length t.stages) (sym c.self.view_is) c.requires.there

stage : (c : After-owns_all) → (world_of (schedule_of c.self.inside)).stages c.args.worker
    ≡ at.Claimed c.in-Claimed.index
stage c =
    ap (λ (t : Schedule). (world_of t).stages c.args.worker) c.self.view_is ∙ sym c.stage.ensures.stage
    ∙ c.in-Claimed.is

-- so it gets a tick where it owns all stripes
allowed : (c : After-owns_all) → c.owns_all.result ≡ true
    → allows (schedule_of c.self.inside) (Tick c.args.worker) ≡ true
allowed c all =
    allowed_by (schedule_of c.self.inside) (Tick c.args.worker) (at.Claimed c.in-Claimed.index) (there c) (stage c)
    (ap (λ (t : Schedule). is_none (next_stripe (plan_of t) (world_of t) c.args.worker c.in-Claimed.index))
    c.self.view_is ∙ sym c.owns_all.ensures ∙ all)

pub overflow_add-self : goal.overflow_add-self
overflow_add-self c =
    let few = few_ticks (schedule_of c.self.inside) c.self.inside.noted_count c.self.invariant in
    record { fits = omega (arith, few, c.self.invariant.few) }

pub invariant_of-self : goal.invariant_of-self
invariant_of-self c =
    let here : After-owns_all = (goal.at.invariant_of-self c).After-owns_all in
    tick_held (schedule_of c.self.inside) c.self.inside.noted_count c.args.worker c.in-Claimed.index c.self.invariant
    (there here) (stage here) (allowed here c.if-not-owns_all.false)

pub returns : goal.returns
returns c =
    let here : After-owns_all = (goal.at.returns c).After-owns_all in
    let s : Schedule = schedule_of c.self.inside in
    let w : ℕ = c.args.worker in
    let i : ℕ = c.in-Claimed.index in
    subst (λ (t : Schedule). (allows t (Tick w) ≡ true) × (plan_of (with_tick s w i) ≡ plan_of t)
    × (world_of (with_tick s w i) ≡ happens (plan_of t) (world_of t) (Tick w))) c.self.view_is
    (allowed here c.if-not-owns_all.false, tick_plan s w i, tick_world s w i (there here) (stage here))
