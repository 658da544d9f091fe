use Rattle.std.proofs.Common.{◌<◌, [], ◌∷◌, ◌++◌, take, length, sym, ap, ◌∙◌, arith, append_assoc}
use Rattle.std.specs.List.{list_any}
use Rattle.eve_grammar.specs.Trace.{RequestId}
use Rattle.eve_workload.specs.inner.RequestIds.{has_id, same_id, ids_of}
use Rattle.eve_workload.proofs.KnownIds.{same_id-true, same_id-itself, ids_more}
use Rattle.eve_workload.proofs.SameKeys.{found_more}
use Rattle.eve_workload.proofs.request_ids.add_all.Goals as goal

pub loop-request-preserved : goal.loop-request-preserved
loop-request-preserved c = λ seen listed other.
    let before = ids_of (take c.loop-request.request-index c.args.requests.now) in
    let id : RequestId = (c.request-item.result.client, c.request-item.result.number) in
    let there : c.loop-request.request-index < length c.args.requests.now = omega arith in
    found_more same_id same_id-true same_id-itself (seen ++ before) id other (has_id c.add_id.new.table.keys other)
    (has_id c.loop-request.table.keys other) (c.in_ok-add_id.ensures.kept other)
    (c.loop-request.invariant seen listed other)
    ∙ ap (list_any (same_id other))
    (append_assoc seen before (id ∷ [])
    ∙ ap (λ ps. seen ++ ps) (sym (ids_more c.args.requests.now c.loop-request.request-index _ _
    (c.request-item.is) there)))
