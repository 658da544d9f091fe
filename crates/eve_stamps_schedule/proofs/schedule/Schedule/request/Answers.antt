use Rattle.std.proofs.Common.{◌≡◌, ◌<◌, List, [], map, length, sym, subst, ap, ◌∙◌}
use Rattle.eve_stamps_schedule.specs.Schedule.{Schedule, plan_of}
use Rattle.eve_stamps_schedule.specs.Scheduled.{schedule_of}
use Rattle.std.proofs.lemmas.List.{get_or-map, length-map}
use Rattle.eve_smallbank.specs.SmallBank.{plain, Balance}
use Rattle.eve_grammar.specs.Trace.{Asked}
use Rattle.eve_write.specs.Data.{asked}
use Rattle.eve_write.specs.declared.request.RequestData.{RequestData}
use Rattle.eve_stamps_schedule.specs.World.{planned_request}
use Rattle.eve_stamps_schedule.proofs.schedule.Schedule.request.Goals as goal

pub returns : goal.returns
returns c =
    let items : List RequestData = c.self.inside.batch.now.requests.items in
    let x : RequestData = c.index.result.now in
    let two : c.args.index < length (schedule_of c.self.inside).requests =
    subst (λ (t : Schedule). c.args.index < length t.requests) (sym c.self.view_is) c.requires.there in
    let there : c.args.index < length (map asked items) = rw (← length-map (map asked items) (λ (a : Asked). a.request))
    two in
    let here : c.args.index < length items = rw (← length-map items asked) there in
    subst (λ (s : Schedule). plain c.request.result ≡ planned_request (plan_of s) c.args.index) c.self.view_is
    (c.request.ensures
    ∙ sym (
    get_or-map (λ (a : Asked). a.request) (map asked items) c.args.index (asked x) (Balance []) there
    ∙ ap (λ (a : Asked). a.request) (get_or-map asked items c.args.index x (asked x) here)
    ∙ ap (λ (q : RequestData). (asked q).request) (sym c.index.ensures)
    ))
