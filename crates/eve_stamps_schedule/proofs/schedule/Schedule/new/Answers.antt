use Rattle.std.proofs.Common.{◌≡◌, ℕ, List, map, length, sym, subst, ap, ◌∙◌, arith}
use Rattle.eve_stamps_schedule.specs.Schedule.{Schedule, plan_of, world_of}
use Rattle.eve_stamps_schedule.specs.Scheduled.{IsHeldSchedule}
use Rattle.eve_smallbank.specs.SmallBank.{Request}
use Rattle.eve_grammar.specs.Trace.{Asked}
use Rattle.eve_write.specs.Data.{batch as plain, asked}
use Rattle.eve_write.specs.declared.request.RequestData.{RequestData}
use Rattle.eve_stamps_schedule.specs.World.{first_world}
use Rattle.eve_stamps_schedule.specs.Schedule.{requests_of_batch}
use Rattle.eve_stamps_schedule.proofs.Openings.{opening_stripes, opening_schedule, opening_plan_is, opening_world}
use Rattle.eve_stamps_schedule.proofs.Openings.{opening_held}
use Rattle.std.proofs.lemmas.List.{length-map}
use Rattle.eve_stamps_schedule.proofs.schedule.Schedule.new.Goals.{In_ok-with_capacity}
use Rattle.eve_stamps_schedule.proofs.schedule.Schedule.new.Goals as goal

-- the sizes of the parallelBatches, and the requests
sizes : (c : In_ok-with_capacity) → List ℕ
sizes c = (plain c.args.batch.now).sizes

requests : (c : In_ok-with_capacity) → List Request
requests c = requests_of_batch (plain c.args.batch.now)

-- what is made of these parts
made : In_ok-with_capacity → Schedule
made c = record {
  names = c.args.names.now.items;
  sizes = sizes c;
  requests = requests c;
  stripes = c.in_ok-opening_stripes.field-0.items;
  owners = c.in_ok-no_owners.field-0.items;
  claimed = 0;
  counter = 0;
  stages = c.in_ok-all_idle.field-0.items;
  noted = map (λ v. v.items) c.in_ok-no_records.field-0.items;
  applied = c.in_ok-with_capacity.field-0.items;
}

-- what a schedule begins with
first : In_ok-with_capacity → Schedule
first c = opening_schedule c.args.names.now.items c.args.balances.now (sizes c) (requests c) c.args.workers

made_is : (c : In_ok-with_capacity) → made c ≡ first c
unfolding made first sizes requests
made_is c =
    let stripes : c.in_ok-opening_stripes.field-0.items
    ≡ opening_stripes c.args.balances.now (length c.args.names.now.items) =
    c.in_ok-opening_stripes.ensures ∙ ap (opening_stripes c.args.balances.now) c.len.ensures.len in
    let owners = c.in_ok-no_owners.ensures in
    let stages = c.in_ok-all_idle.ensures in
    let noted = c.in_ok-no_records.ensures in
    let applied = c.in_ok-with_capacity.ensures.items in
    (λ k. record {
      names = c.args.names.now.items;
      sizes = sizes c;
      requests = requests c;
      stripes = stripes k;
      owners = owners k;
      claimed = 0;
      counter = 0;
      stages = stages k;
      noted = noted k;
      applied = applied k;
    })

pub invariant_of-result : goal.invariant_of-result
unfolding made first sizes requests
invariant_of-result c =
    let items : List RequestData = c.args.batch.now.requests.items in
    let one : length (map asked items) ≡ length items = length-map items asked in
    let two : length (requests c) ≡ length (map asked items) =
    length-map (map asked items) (λ (a : Asked). a.request) in
    subst (λ (t : Schedule). IsHeldSchedule t 0) (sym (made_is c))
    (opening_held c.args.names.now.items c.args.balances.now (sizes c) (requests c) c.args.workers
    c.requires.rows (omega (arith, c.requires.requests)))

pub returns-clause-plan : goal.returns-clause-plan
unfolding made first sizes requests
returns-clause-plan c =
    ap plan_of (made_is c)
    ∙ opening_plan_is c.args.names.now.items c.args.balances.now (sizes c) (requests c) c.args.workers
    c.requires.rows

pub returns-clause-first : goal.returns-clause-first
unfolding made first sizes requests
returns-clause-first c =
    ap world_of (made_is c)
    ∙ opening_world c.args.names.now.items c.args.balances.now (sizes c) (requests c) c.args.workers
    ∙ ap (λ (t : Schedule). first_world (plan_of t)) (sym (made_is c))
