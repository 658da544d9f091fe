use Rattle.std.proofs.Common.{◌≡◌, ◌++◌, ℕ, List, [], ◌∷◌, Vec, get_or, map, sym, ap, ◌∙◌, arith, rules}
use Rattle.std.specs.declared.alloc.Global.{Global}
use Rattle.std.proofs.lemmas.List.{take_all, map_more, map-append}
use Rattle.eve_grammar.specs.Trace.{Asked}
use Rattle.eve_write.specs.Data.{asked}
use Rattle.eve_write.specs.declared.request.RequestData.{RequestData}
use Rattle.eve_workload.specs.Batches.{asked_lists}
use Rattle.eve_workload.proofs.workload.copies_of.Goals as goal

pub loop-batch-preserved : goal.loop-batch-preserved
loop-batch-preserved c =
    let list : Vec RequestData Global → List Asked = λ batch. map asked batch.items in
    let at : ℕ = c.loop-batch.batch-index in
    let copied : list c.in_ok-to_vec.field-0 ≡ list (get_or c.args.batches.now at c.batch-item.result) =
    ap (map asked) (c.in_ok-to_vec.ensures.items_if_clones_equal (λ x y e. e) ∙ c.deref.ensures.value)
    ∙ ap list c.batch-item.is in
    let pushed : c.push_reserved.new.self.items ≡ c.loop-batch.copies.items ++ c.in_ok-to_vec.field-0 ∷ [] =
    search rules in
    record {
      copies = ap asked_lists pushed
          ∙ map-append list c.loop-batch.copies.items (c.in_ok-to_vec.field-0 ∷ [])
          ∙ (λ i. c.loop-batch.invariant.copies i ++ copied i ∷ [])
          ∙ sym (map_more list c.args.batches.now at c.batch-item.result (omega arith));
      len = omega (arith, c.push_reserved.ensures.len, c.loop-batch.invariant.len);
      room = c.push_reserved.ensures.capacity ∙ c.loop-batch.invariant.room;
    }

pub returns : goal.returns
returns c =
    c.loop-batch.invariant.copies ∙ ap asked_lists (take_all c.loop-batch.batch-index c.args.batches.now (omega arith))
