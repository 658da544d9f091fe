use Rattle.std.proofs.Common.{◌≡◌, ℕ, ◌+◌, ◌<◌, true, List, length, get_or, set, Option, None, is_none, refl, sym}
use Rattle.std.proofs.Common.{subst, ap, ◌∙◌, arith}
use Rattle.eve_stamps_schedule.specs.declared.event.Event.TheVariants.{Note}
use Rattle.eve_stamps_schedule.specs.declared.stage.Stage.TheVariants as at
use Rattle.eve_stamps_schedule.specs.Events.{happens}
use Rattle.eve_stamps_schedule.specs.Schedule.{Schedule, plan_of, world_of, allows}
use Rattle.eve_stamps_schedule.specs.Scheduled.{schedule_of, IsHeldSchedule}
use Rattle.eve_stamps.specs.Applied.{Applied}
use Rattle.eve_stamps.specs.declared.limits.TheConstants.{STRIPES}
use Rattle.eve_stamps_schedule.specs.Stripes.{greatest_below}
use Rattle.eve_stamps_schedule.specs.Events.{is_owner, last_stripe}
use Rattle.eve_stamps_schedule.proofs.ScheduleSteps.{allowed_by, note_held, note_plan, note_world, with_note, few_noted}
use Rattle.eve_stamps_schedule.proofs.ScheduleSteps.{is_nobodys}
use Rattle.eve_stamps_schedule.proofs.schedule.Schedule.note.Goals.{After-append}
use Rattle.eve_stamps_schedule.proofs.schedule.Schedule.note.Goals as goal

-- the worker is there, and has applied
there : (c : After-append) → c.args.worker < length (schedule_of c.self.inside).stages
there c = subst (λ (t : Schedule). c.args.worker < length t.stages) (sym c.self.view_is) c.requires.there

stage : (c : After-append) → (world_of (schedule_of c.self.inside)).stages c.args.worker ≡ at.Applied c.in-Applied.made
stage c =
    ap (λ (t : Schedule). (world_of t).stages c.args.worker) c.self.view_is ∙ sym c.stage.ensures.stage
    ∙ c.in-Applied.is

-- it owns no stripe, so it may note
allowed : (c : After-append) → allows (schedule_of c.self.inside) (Note c.args.worker) ≡ true
allowed c =
    let w : ℕ = c.args.worker in
    let none : is_none (last_stripe (world_of (schedule_of c.self.inside)) w) ≡ true =
    ap (λ (os : List (Option ℕ)). is_none (greatest_below STRIPES (λ j. is_owner w (get_or os j None))))
    (sym c.as_slice.ensures.value)
    ∙ ap is_none (sym c.last_stripe.ensures)
    ∙ is_nobodys c.last_stripe.result (sym c.is_some.ensures ∙ c.if-is_some.false) in
    allowed_by (schedule_of c.self.inside) (Note w) (at.Applied c.in-Applied.made) (there c) (stage c) none

pub overflow_add-self : goal.overflow_add-self
overflow_add-self c =
    let here : After-append = (goal.at.overflow_add-self c).After-append in
    let s : Schedule = schedule_of c.self.inside in
    let few = few_noted s c.self.inside.noted_count c.args.worker (at.Applied c.in-Applied.made) c.self.invariant
    (there here) (stage here) refl in
    record { fits = omega (arith, few, c.self.invariant.few) }

pub returns-in-Ok : goal.returns-in-Ok
returns-in-Ok c =
    let here : After-append = (goal.at.returns-in-Ok c).After-append in
    let s : Schedule = schedule_of c.self.inside in
    let w : ℕ = c.args.worker in
    let x : Applied = c.in-Applied.made in
    subst (λ (xs : List (List Applied)). (allows c.args.self.now (Note w) ≡ true)
    × (plan_of (record s { stages = set s.stages w at.Idle; noted = xs }) ≡ plan_of c.args.self.now)
    × (world_of (record s { stages = set s.stages w at.Idle; noted = xs })
    ≡ happens (plan_of c.args.self.now) (world_of c.args.self.now) (Note w))) (sym c.in-Ok.ensures.appended)
    (subst (λ (t : Schedule). (allows t (Note w) ≡ true) × (plan_of (with_note s w x) ≡ plan_of t)
    × (world_of (with_note s w x) ≡ happens (plan_of t) (world_of t) (Note w))) c.self.view_is
    (allowed here, note_plan s w x, note_world s w x (there here) c.self.invariant.noted (stage here)))

pub invariant_of-self-in-Err : goal.invariant_of-self-in-Err
invariant_of-self-in-Err c =
    let s : Schedule = schedule_of c.self.inside in
    subst (λ (xs : List (List Applied)). IsHeldSchedule (record s { noted = xs }) c.self.inside.noted_count)
    (sym c.in-Err.ensures.kept) c.self.invariant

pub returns-in-Err : goal.returns-in-Err
returns-in-Err c =
    let here : After-append = (goal.at.returns-in-Err c).After-append in
    let s : Schedule = schedule_of c.self.inside in (
      subst (λ (t : Schedule). allows t (Note c.args.worker) ≡ true) c.self.view_is (allowed here),
      refl,
      ap (λ (xs : List (List Applied)). record s { noted = xs }) c.in-Err.ensures.kept ∙ c.self.view_is,
    )

pub invariant_of-self : goal.invariant_of-self
invariant_of-self c =
    let here : After-append = (goal.at.invariant_of-self c).After-append in
    let s : Schedule = schedule_of c.self.inside in
    let w : ℕ = c.args.worker in
    subst (λ (xs : List (List Applied)). IsHeldSchedule (record s { stages = set s.stages w at.Idle; noted = xs })
    (c.self.inside.noted_count + 1)) (sym c.in-Ok.ensures.appended)
    (note_held s c.self.inside.noted_count w c.in-Applied.made c.self.invariant
    (there here) (stage here) (allowed here))
