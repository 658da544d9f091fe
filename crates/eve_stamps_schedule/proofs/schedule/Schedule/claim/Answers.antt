use Rattle.std.proofs.Common.{◌≡◌, ℕ, ◌<◌, true, length, sym, subst, ap, ◌∙◌}
use Rattle.eve_stamps_schedule.specs.declared.event.Event.TheVariants.{Claim}
use Rattle.eve_stamps_schedule.specs.declared.stage.Stage.TheVariants as at
use Rattle.eve_stamps_schedule.specs.Events.{happens}
use Rattle.eve_stamps_schedule.specs.Schedule.{Schedule, plan_of, world_of, allows}
use Rattle.eve_stamps_schedule.specs.Scheduled.{schedule_of}
use Rattle.eve_stamps_schedule.specs.Events.{may_claim}
use Rattle.eve_stamps_schedule.proofs.ScheduleSteps.{allowed_by, claim_held, claim_plan, claim_world, with_claim}
use Rattle.eve_stamps_schedule.proofs.schedule.Schedule.claim.Goals.{After-may_claim}
use Rattle.eve_stamps_schedule.proofs.schedule.Schedule.claim.Goals as goal

-- the worker is there, and has no request
there : (c : After-may_claim) → c.args.worker < length (schedule_of c.self.inside).stages
there c = subst (λ (t : Schedule). c.args.worker < length t.stages) (sym c.self.view_is) c.requires.there

stage : (c : After-may_claim) → (world_of (schedule_of c.self.inside)).stages c.args.worker ≡ at.Idle
stage c =
    ap (λ (t : Schedule). (world_of t).stages c.args.worker) c.self.view_is ∙ sym c.stage.ensures.stage ∙ c.in-Idle.is

-- so it may claim where the answer is true
allowed : (c : After-may_claim) → c.may_claim.result ≡ true
    → allows (schedule_of c.self.inside) (Claim c.args.worker) ≡ true
allowed c may =
    allowed_by (schedule_of c.self.inside) (Claim c.args.worker) at.Idle (there c) (stage c)
    (ap (λ (t : Schedule). may_claim (plan_of t) (world_of t)) c.self.view_is ∙ sym c.may_claim.ensures ∙ may)

pub invariant_of-self : goal.invariant_of-self
invariant_of-self c =
    let here : After-may_claim = (goal.at.invariant_of-self c).After-may_claim in
    claim_held (schedule_of c.self.inside) c.self.inside.noted_count c.args.worker c.self.invariant
    (there here) (stage here)
    (allowed here c.if-not-may_claim.false)

pub returns : goal.returns
returns c =
    let here : After-may_claim = (goal.at.returns c).After-may_claim in
    let s : Schedule = schedule_of c.self.inside in
    let w : ℕ = c.args.worker in
    subst (λ (t : Schedule). (allows t (Claim w) ≡ true) × (plan_of (with_claim s w) ≡ plan_of t)
    × (world_of (with_claim s w) ≡ happens (plan_of t) (world_of t) (Claim w))) c.self.view_is
    (allowed here c.if-not-may_claim.false, claim_plan s w, claim_world s w (there here) (stage here))
