use Rattle.std.proofs.Common.{◌∷◌, [], ◌++◌, List, All, map, take, sym, subst, arith, ap, ◌∙◌}
use Rattle.std.proofs.lemmas.List.{map-append, take_more}
use Rattle.std.proofs.lemmas.List.Elements.{All-push}
use Rattle.eve_grammar.specs.Trace.{Batch}
use Rattle.eve_write.specs.Data.{batch}
use Rattle.eve_write.specs.declared.batch.BatchData.{BatchData}
use Rattle.eve_workload.specs.declared.mixer.MixedBatch.{MixedBatch}
use Rattle.eve_floor.specs.declared.assignment.Assignment.{Assignment}
use Rattle.eve_floor.specs.Assignments.{IsRightAssignment}
use Rattle.eve_replica.proofs.attempting.assignments_of.Goals as goal

pub loop-mixed-preserved : goal.loop-mixed-preserved
loop-mixed-preserved c = record {
  right = subst (All (IsRightAssignment c.args.floor.now c.args.workers)) (sym c.push_reserved.ensures.items)
      (All-push (IsRightAssignment c.args.floor.now c.args.workers) c.loop-mixed.assignments.items
      c.assignment_of.result
      c.loop-mixed.invariant.right c.assignment_of.ensures.right);
  many = omega (arith, c.loop-mixed.invariant.many, c.push_reserved.ensures.len);
  room = omega (arith, c.loop-mixed.invariant.room, c.push_reserved.ensures.capacity);
  batches = ap (map (λ (a : Assignment). batch a.batch.now)) c.push_reserved.ensures.items
      ∙ map-append (λ (a : Assignment). batch a.batch.now) c.loop-mixed.assignments.items (c.assignment_of.result ∷ [])
      ∙ ap (λ (bs : List Batch). bs ++ batch c.assignment_of.result.batch.now ∷ []) c.loop-mixed.invariant.batches
      ∙ ap (λ (b : BatchData). map (λ (m : MixedBatch). batch m.batch) (take c.loop-mixed.mixed-index c.args.window.now)
      ++ batch b ∷ []) (c.assignment_of.ensures.batch ∙ ap (λ (m : MixedBatch). m.batch) c.mixed-item.is)
      ∙ sym (ap (map (λ (m : MixedBatch). batch m.batch))
      (take_more c.args.window.now c.loop-mixed.mixed-index c.mixed-item.result (omega arith))
      ∙ map-append (λ (m : MixedBatch). batch m.batch) (take c.loop-mixed.mixed-index c.args.window.now) _);
}
