use Rattle.std.proofs.Common.{◌≡◌, false, [], min, ap, ◌∙◌, subst, arith, Option, IfSome}
use Rattle.crossbeam_queue.specs.Passes.{view}
use Rattle.eve_recorder.specs.QueueRule.{knowledge, IsWorkers}
use Rattle.eve_recorder.specs.RecorderViews.{RecorderId, recorder_id, Noter, IsNoterOf}
use Rattle.eve_recorder.proofs.JoinedPass.{put_step}
use Rattle.eve_recorder.proofs.recorder.put_back.Goals as goal

pub absorb-requires-clause-rule : goal.absorb-requires-clause-rule
absorb-requires-clause-rule c =
    let here : RecorderId = recorder_id c.args.queue.now.table.shared.table_id c.args.workers in
    let own = subst (λ (s : Option Noter). IfSome s (IsNoterOf here c.args.w)) c.in-Some.is c.requires.own in
    let is : c.seat.inside.worker ≡ c.args.w = ap (λ (s : Noter). s.worker) c.seat.view_is ∙ own.1 in
    let many : (view c.seat.inside.pass).workers ≡ c.args.workers =
    ap (λ (s : Noter). s.recorder.workers) c.seat.view_is ∙ ap (λ (r : RecorderId). r.workers) own.0 in
    let at : min c.args.workers c.args.w ≡ c.args.w = let lt = own.2 in omega arith in
    put_step _ _ c.args.workers c.args.w c.seat.inside.place _ _
    (c.requires.main ∙ ap (λ n. knowledge false [] c.args.workers 0 n (view c.args.main.now).noted) at)
    (subst (λ w. IsWorkers w c.seat.inside.place (view c.seat.inside.pass)) is c.seat.invariant.1) many
