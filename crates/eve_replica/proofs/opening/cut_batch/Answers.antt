use Rattle.std.proofs.Common.{rules, ◌≡◌, IfOk, List, map, subst}
use Rattle.eve_write.specs.declared.request.RequestData.{RequestData}
use Rattle.eve_write.specs.Data.{asked, batch}
use Rattle.eve_workload.specs.Mixers.{cut, batch_with}
use Rattle.eve_replica.proofs.opening.cut_batch.Goals as goal

pub returns-clause-cut : goal.returns-clause-cut
returns-clause-cut c =
    subst (λ (requests : List RequestData). IfOk c.mix_touched.result
    (λ m. batch m.batch ≡ batch_with (cut c.args.names.now.items c.args.mixer (map asked requests))))
    c.as_slice.ensures.value c.mix_touched.ensures.batch

pub returns-clause-mixed : goal.returns-clause-mixed
returns-clause-mixed c = search rules
