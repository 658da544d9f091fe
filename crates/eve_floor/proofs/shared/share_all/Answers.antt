use Rattle.std.proofs.Common.{◌≡◌, ◌++◌, ◌∷◌, [], ◌+◌, List, All, map, take, sym, subst, arith}
use Rattle.std.proofs.lemmas.Grind.{common_steps}
use Rattle.std.proofs.lemmas.List.Elements.{All-push}
use Rattle.std.proofs.lemmas.Slice.Zip.{all_zipped_more}
use Rattle.std.specs.List.{AllZip}
use Rattle.eve_floor.specs.declared.shared.SharedBatch.{SharedBatch}
use Rattle.eve_floor.specs.SharedBatches.{IsRightlyShared, AreFreshAt}
use Rattle.eve_floor.proofs.Assigned.{assignments_more}
use Rattle.eve_floor.proofs.shared.share_all.Goals as goal

pub loop-assignment-preserved : goal.loop-assignment-preserved
loop-assignment-preserved c =
    let was = c.loop-assignment.invariant in
    let Right = IsRightlyShared c.args.floor.now in
    let Seated = AreFreshAt c.args.floor.now in
    let one : SharedBatch = c.in_ok-shared.shared in
    record {
      many = grind (arith, common_steps);
      all = grind (arith, common_steps);
      room = grind (arith, common_steps);
      seat_room = grind (arith, common_steps);
      right = subst (All Right) (sym c.push_reserved.ensures.items)
          (All-push Right c.loop-assignment.batches.items one was.right c.in_ok-shared.ensures.shared);
      free = subst (λ (batches : List SharedBatch). AllZip Seated batches
          c.push_reserved-in-loop-assignment.new.self.items)
          (sym c.push_reserved.ensures.items)
          (subst (AllZip Seated (c.loop-assignment.batches.items ++ one ∷ []))
          (sym c.push_reserved-in-loop-assignment.ensures.items)
          (all_zipped_more Seated c.loop-assignment.batches.items c.loop-assignment.free.items one
          c.in_ok-shared.seats was.free c.in_ok-shared.ensures.free));
      assignments = subst (λ (batches : List SharedBatch). map (λ b. b.assignment) batches
          ≡ take (c.loop-assignment.assignment-index + 1) c.args.assignments.now)
          (sym c.push_reserved.ensures.items)
          (assignments_more c.loop-assignment.batches.items one c.args.assignments.now
          c.assignment-item.result c.loop-assignment.assignment-index
          (omega arith) c.assignment-item.is c.in_ok-shared.ensures.assignment was.assignments);
    }
