use Rattle.std.proofs.Common.{◌≡◌, List, length, map, ap, ◌∙◌, arith}
use Rattle.std.specs.Prelude.{◌==◌}
use Rattle.std.proofs.lemmas.List.{length-map}
use Rattle.eve_grammar.specs.Trace.{Asked}
use Rattle.eve_write.specs.Data.{asked}
use Rattle.eve_write.specs.declared.request.RequestData.{RequestData}
use Rattle.eve_stamps_schedule.specs.Serial.{is_done}
use Rattle.eve_stamps_schedule.specs.Schedule.{Schedule, plan_of, world_of}
use Rattle.eve_stamps_schedule.specs.Scheduled.{schedule_of}
use Rattle.eve_stamps_schedule.proofs.schedule.Schedule.done.Goals as goal

pub returns : goal.returns
returns c =
    let s : Schedule = schedule_of c.self.inside in
    let items : List RequestData = c.self.inside.batch.now.requests.items in
    let asks = length-map items asked in
    let requests = length-map (map asked items) (λ (a : Asked). a.request) in
    let count : c.len.result ≡ length s.requests = omega (arith, asks, requests) in
    (λ k. c.self.invariant.counted k == count k)
    ∙ ap (λ (t : Schedule). is_done (plan_of t) (world_of t)) c.self.view_is
