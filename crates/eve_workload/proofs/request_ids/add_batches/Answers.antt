use Rattle.std.proofs.Common.{◌<◌, ◌++◌, take, length, sym, subst, ap, ◌∙◌, arith, append_assoc}
use Rattle.eve_workload.specs.inner.RequestIds.{ids_in, ids_of, Lists}
use Rattle.eve_workload.proofs.KnownIds.{ids_in_more}
use Rattle.eve_workload.proofs.request_ids.add_batches.Goals as goal

pub loop-batch-preserved : goal.loop-batch-preserved
loop-batch-preserved c = λ seen listed.
    let before = ids_in (take c.loop-batch.batch-index c.args.batches.now) in
    let there : c.loop-batch.batch-index < length c.args.batches.now = omega arith in
    subst (Lists c.add_all.new.table)
    (ap (λ ids. (seen ++ before) ++ ids) (ap ids_of c.as_slice.ensures.value)
    ∙ append_assoc seen before (ids_of c.batch-item.result.items)
    ∙ ap (λ ids. seen ++ ids) (sym (ids_in_more c.args.batches.now c.loop-batch.batch-index _ _ c.batch-item.is there)))
    (c.in_ok-add_all.ensures (seen ++ before) (c.loop-batch.invariant seen listed))
