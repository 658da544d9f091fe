use Rattle.std.proofs.Common.{◌≡◌, ℕ, List, map, sym, ap, ◌∙◌}
use Rattle.std.specs.Prelude.{slice_index_or}
use Rattle.eve_grammar.specs.Trace.{Asked}
use Rattle.eve_write.specs.Data.{asked}
use Rattle.eve_workload.specs.declared.mixer.Mixer.TheVariants.{First}
use Rattle.eve_workload.specs.Mixers.{cut}
use Rattle.eve_workload.specs.inner.Mixed.{touched_by}
use Rattle.eve_workload.specs.inner.Groups.{refused_request, listed}
use Rattle.eve_workload.proofs.Mixed.{first_cut, batch_is, touched_listed}
use Rattle.eve_workload.proofs.mixer.cut_first.Goals as goal

pub returns : goal.returns
returns c names is =
    let asks : List Asked = map asked c.args.requests.now in
    let sizes : List ℕ = c.in_ok-groups.groups.sizes.items in
    let order : List ℕ = c.in_ok-groups.groups.order.items in
    let copied : map asked c.in_ok-requests.requests.items ≡ listed asks order = c.in_ok-requests.ensures
    ∙ ap (listed asks) c.as_slice-2.ensures.value in
    record {
      batch_is =
          batch_is sizes (map asked c.in_ok-requests.requests.items) (listed asks order) (cut names First asks) copied
          (first_cut names asks c.args.touched.now is sizes order c.in_ok-groups.ensures.groups);
      touched_is =
          c.in_ok-touched.ensures (touched_by names refused_request)
          ∙ (λ k. map (λ i. slice_index_or (is k) i (touched_by names refused_request)) (c.as_slice.ensures.value k))
          ∙ touched_listed (touched_by names) asks order ∙ ap (map (touched_by names)) (sym copied);
    }
