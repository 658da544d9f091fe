use Rattle.std.proofs.Common.{◌≡◌, ◌<◌, length, sym, subst, ◌∙◌}
use Rattle.eve_stamps_schedule.specs.declared.stage.Stage.TheVariants as at
use Rattle.eve_stamps_schedule.specs.Schedule.{Schedule, world_of}
use Rattle.eve_stamps_schedule.specs.Scheduled.{schedule_of}
use Rattle.std.proofs.lemmas.List.{get_or_default}
use Rattle.eve_stamps_schedule.proofs.ScheduleSteps.{claimed_there, ticked_there}
use Rattle.eve_stamps_schedule.proofs.schedule.Schedule.stage.Goals as goal

pub returns-clause-claimed : goal.returns-clause-claimed
returns-clause-claimed c i e =
    let s : Schedule = schedule_of c.self.inside in
    let there : c.args.worker < length s.stages = subst (λ (t : Schedule). c.args.worker < length t.stages)
    (sym c.self.view_is) c.requires.there in
    let stage : (world_of s).stages c.args.worker ≡ at.Claimed i =
    get_or_default s.stages c.args.worker at.Idle c.index.result.now there ∙ sym c.index.ensures ∙ e in
    subst (λ (t : Schedule). i < length t.requests) c.self.view_is
    (claimed_there s c.self.inside.noted_count c.args.worker i c.self.invariant there stage)

pub returns-clause-ticked : goal.returns-clause-ticked
returns-clause-ticked c i n e =
    let s : Schedule = schedule_of c.self.inside in
    let there : c.args.worker < length s.stages = subst (λ (t : Schedule). c.args.worker < length t.stages)
    (sym c.self.view_is) c.requires.there in
    let stage : (world_of s).stages c.args.worker ≡ at.Ticked i n =
    get_or_default s.stages c.args.worker at.Idle c.index.result.now there ∙ sym c.index.ensures ∙ e in
    subst (λ (t : Schedule). i < length t.requests) c.self.view_is
    (ticked_there s c.self.inside.noted_count c.args.worker i n c.self.invariant there stage)
