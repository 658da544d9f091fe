use Rattle.std.proofs.Common.{◌≡◌, ℕ, ◌<◌, true, List, length, set, refl, sym, subst, ap, ◌∙◌, arith, rules}
use Rattle.eve_stamps_schedule.specs.declared.event.Event.TheVariants.{Apply}
use Rattle.eve_stamps_schedule.specs.declared.stage.Stage.TheVariants as at
use Rattle.eve_stamps_schedule.specs.Events.{happens}
use Rattle.eve_stamps_schedule.specs.Schedule.{Schedule, plan_of, world_of, allows}
use Rattle.eve_stamps_schedule.specs.Scheduled.{schedule_of, IsHeldSchedule}
use Rattle.std.specs.Vec.{with_items}
use Rattle.std.proofs.lemmas.List.{with_items_is}
use Rattle.eve_smallbank.specs.SmallBank.{plain, Request}
use Rattle.eve_smallbank.specs.Chain.{table_after}
use Rattle.eve_smallbank.specs.Execution.{executed_on}
use Rattle.eve_grammar.specs.declared.limits.TheConstants.{MOST_VERSIONS}
use Rattle.eve_stamps.specs.Applied.{Applied, noted_of}
use Rattle.eve_stamps.specs.Stripes.{Stripe, is_above}
use Rattle.eve_stamps_schedule.specs.ListOrder.{EachBefore}
use Rattle.eve_stamps_schedule.specs.Stripes.{needs}
use Rattle.eve_stamps_schedule.specs.World.{planned_request}
use Rattle.eve_stamps_schedule.specs.Events.{placed_by_tick}
use Rattle.eve_stamps_schedule.specs.Schedule.{stripe_at, table_of_stripes}
use Rattle.eve_stamps_schedule.specs.AppliedRequests.{IsKeptAt}
use Rattle.eve_stamps_schedule.proofs.ScheduleSteps.{allowed_by, above_owned, fresh_rows, short_list, ticks_rise}
use Rattle.eve_stamps_schedule.proofs.ScheduleSteps.{IsMadeOn}
use Rattle.eve_stamps_schedule.proofs.ScheduleSteps.{with_made, made_plan, made_world, made_held}
use Rattle.eve_stamps_schedule.proofs.schedule.Schedule.apply.Goals.{In-Ticked, In-Ok}
use Rattle.eve_stamps_schedule.proofs.schedule.Schedule.apply.Goals as goal

-- the worker is there, and has its tick
there : (c : In-Ticked) → c.args.worker < length (schedule_of c.self.inside).stages
there c = subst (λ (t : Schedule). c.args.worker < length t.stages) (sym c.self.view_is) c.requires.there

stage : (c : In-Ticked) → (world_of (schedule_of c.self.inside)).stages c.args.worker
    ≡ at.Ticked c.in-Ticked.index c.in-Ticked.tick
stage c =
    ap (λ (t : Schedule). (world_of t).stages c.args.worker) c.self.view_is ∙ sym c.stage.ensures.stage
    ∙ c.in-Ticked.is

-- the request is that of its index
same : (c : In-Ok) → plain c.request-request.result
    ≡ planned_request (plan_of (schedule_of c.self.inside)) c.in-Ticked.index
same c =
    c.request-request.ensures ∙ ap (λ (t : Schedule). planned_request (plan_of t) c.in-Ticked.index)
    (sym c.self.view_is)

-- the place is the next of the worker
place : (c : In-Ok) → length c.noted.result.now
    ≡ length ((world_of (schedule_of c.self.inside)).noted c.args.worker)
place c =
    ap length c.noted.ensures
    ∙ ap (λ (t : Schedule). length ((world_of t).noted c.args.worker)) (sym c.self.view_is)

-- the record is made on the stripes as they were
on : (c : In-Ok) → IsMadeOn (schedule_of c.self.inside) c.args.worker c.in-Ticked.index c.in-Ticked.tick c.in-Ok.made
    c.applied_on-made.new.stripes
on c =
    let s : Schedule = schedule_of c.self.inside in
    let n : ℕ = c.in-Ticked.tick in
    let ss : List Stripe = c.applied_on-made.new.stripes in
    let value = c.as_mut_slice.ensures.value in
    let request : Request = plain c.request-request.result in
    record {
      long = c.applied_on-made.auto.stripes ∙ ap length value;
      exact = c.in-Ok.ensures.exact ∙ (λ k. noted_of c.args.worker (place c k) c.in-Ticked.index n
          (executed_on s.names (table_of_stripes (value k)) (same c k)));
      table = c.in-Ok.ensures.table ∙ ap (λ (l : List Stripe). table_after (table_of_stripes l) c.in-Ok.made.entries)
          value;
      kept = λ k.
          subst (λ (r : Request). IsKeptAt n (needs s.names r k) (stripe_at s.stripes k) (stripe_at ss k)) (same c)
          (subst (λ (l : List Stripe). IsKeptAt n (needs s.names request k) (stripe_at l k) (stripe_at ss k)) value
          (c.in-Ok.ensures.stripes k));
    }

allowed : (c : In-Ticked) → allows (schedule_of c.self.inside) (Apply c.args.worker) ≡ true
allowed c =
    allowed_by (schedule_of c.self.inside) (Apply c.args.worker) (at.Ticked c.in-Ticked.index c.in-Ticked.tick)
    (there c) (stage c) refl

-- what the stripes and the applied records are then
stripes : (c : In-Ok) → (with_items c.self.inside.stripes c.applied_on-made.new.stripes).items
    ≡ c.applied_on-made.new.stripes
stripes c =
    with_items_is c.self.inside.stripes c.applied_on-made.new.stripes
    (c.applied_on-made.auto.stripes ∙ c.as_mut_slice.ensures.len)

pub overflow_cast-place : goal.overflow_cast-place
overflow_cast-place c =
    let ticked : In-Ticked = (goal.at.overflow_cast-place c).In-Ticked in
    let s : Schedule = schedule_of c.self.inside in
    let short = short_list s c.self.inside.noted_count c.args.worker c.self.invariant (there ticked) in
    let here : length c.noted.result.now ≡ length ((world_of s).noted c.args.worker) =
    ap length c.noted.ensures
    ∙ ap (λ (t : Schedule). length ((world_of t).noted c.args.worker)) (sym c.self.view_is) in
    record { fits = omega (arith, c.self.invariant.few) }

pub applied_on-made-requires-clause-above : goal.applied_on-made-requires-clause-above
applied_on-made-requires-clause-above c k need =
    let ticked : In-Ticked = (goal.at.applied_on-made-requires-clause-above c).In-Ticked in
    let s : Schedule = schedule_of c.self.inside in
    let n : ℕ = c.in-Ticked.tick in
    let same : plain c.request-request.result ≡ planned_request (plan_of s) c.in-Ticked.index =
    c.request-request.ensures
    ∙ ap (λ (t : Schedule). planned_request (plan_of t) c.in-Ticked.index) (sym c.self.view_is) in
    subst (λ (l : List Stripe). is_above n (stripe_at l k).greatest ≡ true) (sym c.as_mut_slice.ensures.value)
    (above_owned s c.self.inside.noted_count c.args.worker c.in-Ticked.index n c.self.invariant (there ticked)
    (stage ticked) k
    (ap (λ (r : Request). needs s.names r k) (sym same) ∙ need))

pub applied_on-made-requires-clause-fresh : goal.applied_on-made-requires-clause-fresh
applied_on-made-requires-clause-fresh c row =
    subst (λ (l : List Stripe). (table_of_stripes l row).version < MOST_VERSIONS) (sym c.as_mut_slice.ensures.value)
    (fresh_rows (schedule_of c.self.inside) c.self.inside.noted_count c.self.invariant row)

pub insert-requires-clause-rises : goal.insert-requires-clause-rises
insert-requires-clause-rises c =
    subst (EachBefore (λ (x y : Applied). x.tick < y.tick)) (sym c.reserve.ensures.items)
    (ticks_rise (schedule_of c.self.inside) c.self.inside.noted_count c.self.invariant)

pub returns-then-is_err : goal.returns-then-is_err
returns-then-is_err c =
    let ticked : In-Ticked = (goal.at.returns-then-is_err c).In-Ticked in (
      ap (λ (t : Schedule). allows t (Apply c.args.worker)) (sym c.self.view_is) ∙ allowed ticked,
      refl,
      search rules,
    )

pub invariant_of-self-in-Ok : goal.invariant_of-self-in-Ok
invariant_of-self-in-Ok c =
    let ok : In-Ok = (goal.at.invariant_of-self-in-Ok c).In-Ok in
    let ticked : In-Ticked = (goal.at.invariant_of-self-in-Ok c).In-Ticked in
    let s : Schedule = schedule_of c.self.inside in
    let w : ℕ = c.args.worker in
    let x : Applied = c.in-Ok.made in
    let ss : List Stripe = c.applied_on-made.new.stripes in
    let applied : c.insert.new.applied.items ≡ placed_by_tick x s.applied =
    c.insert.ensures ∙ ap (placed_by_tick x) c.reserve.ensures.items in
    subst (λ (l : List Stripe). IsHeldSchedule
    (record s { stripes = l; stages = set s.stages w (at.Applied x); applied = c.insert.new.applied.items })
    c.self.inside.noted_count) (sym (stripes ok))
    (subst (λ (l : List Applied). IsHeldSchedule
    (record s { stripes = ss; stages = set s.stages w (at.Applied x); applied = l })
    c.self.inside.noted_count) (sym applied)
    (made_held s c.self.inside.noted_count w c.in-Ticked.index c.in-Ticked.tick x ss (on ok) c.self.invariant
    (there ticked) (stage ticked) (allowed ticked)))

pub returns-in-Ok : goal.returns-in-Ok
returns-in-Ok c =
    let ok : In-Ok = (goal.at.returns-in-Ok c).In-Ok in
    let ticked : In-Ticked = (goal.at.returns-in-Ok c).In-Ticked in
    let s : Schedule = schedule_of c.self.inside in
    let w : ℕ = c.args.worker in
    let i : ℕ = c.in-Ticked.index in
    let n : ℕ = c.in-Ticked.tick in
    let x : Applied = c.in-Ok.made in
    let ss : List Stripe = c.applied_on-made.new.stripes in
    let applied : c.insert.new.applied.items ≡ placed_by_tick x s.applied =
    c.insert.ensures ∙ ap (placed_by_tick x) c.reserve.ensures.items in
    let whole : record s {
      stripes = (with_items c.self.inside.stripes ss).items;
      stages = set s.stages w (at.Applied x);
      applied = c.insert.new.applied.items;
    } ≡ with_made s w x ss =
    (λ k. record s {
      stripes = stripes ok k;
      stages = set s.stages w (at.Applied x);
      applied = applied k;
    }) in
    subst (λ (new : Schedule). (allows c.args.self.now (Apply w) ≡ true) × (plan_of new ≡ plan_of c.args.self.now)
    × (world_of new ≡ happens (plan_of c.args.self.now) (world_of c.args.self.now) (Apply w))) (sym whole)
    (subst (λ (t : Schedule). (allows t (Apply w) ≡ true) × (plan_of (with_made s w x ss) ≡ plan_of t)
    × (world_of (with_made s w x ss) ≡ happens (plan_of t) (world_of t) (Apply w))) c.self.view_is
    (allowed ticked, made_plan s w i n x ss (on ok), made_world s w i n x ss (on ok) (there ticked) (stage ticked)))
