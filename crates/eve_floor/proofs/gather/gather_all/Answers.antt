use Rattle.std.proofs.Common.{◌≡◌, ◌+◌, ◌<◌, List, length, map, take, subst, sym, ap, ◌∙◌, arith}
use Rattle.std.specs.List.{AllZip}
use Rattle.std.proofs.lemmas.List.{get_or-map, length-drop, length-map}
use Rattle.eve_floor.specs.declared.assignment.Assignment.{Assignment}
use Rattle.eve_floor.specs.declared.shared.SharedBatch.{SharedBatch}
use Rattle.eve_floor.specs.Recording.{IsNotedFor}
use Rattle.eve_floor.specs.SharedBatches.{AreFreeAt}
use Rattle.eve_floor.proofs.Zipped.{drop_next, zip_first, zip_more}
use Rattle.eve_floor.proofs.gather.gather_all.Goals as goal

pub loop-place-preserved : goal.loop-place-preserved
loop-place-preserved g c =
    let was = c.loop-place.invariant in
    let all : List SharedBatch = c.args.batches.items in
    let place = c.loop-place.place in
    let shared : SharedBatch = c.remove-shared.result in
    let there : place < length all = omega (arith, c.loop-place-test.true, c.len-count.ensures, c.args.batches.ok) in
    let some : 0 < length c.loop-place.batches.items =
    omega (arith, there, was.left, c.args.batches.ok, c.loop-place.batches.ok) in
    let next = drop_next all c.loop-place.batches.items place shared there was.batches c.remove-shared.ensures.value in
    let Seated = AreFreeAt c.args.floor.now in
    let Noted = IsNotedFor c.args.floor.now in
    let given : List Assignment = map (λ (b : SharedBatch). b.assignment) all in
    let is : shared.assignment ≡ _ = ap (λ (b : SharedBatch). b.assignment) next.0
    ∙ sym (get_or-map (λ (b : SharedBatch). b.assignment) all place shared shared.assignment there) in
    record {
      many = omega (arith, c.push_reserved.ensures.len, was.many);
      left = omega (arith, c.remove-shared.ensures.len, was.left);
      capacity = omega (arith, c.push_reserved.ensures.capacity, was.capacity);
      batches = c.remove-shared.ensures.items ∙ next.1;
      free = subst (λ bs. AllZip Seated bs c.remove-seats.new.self.items) (sym c.remove-shared.ensures.items)
          (subst (AllZip Seated _) (sym c.remove-seats.ensures.items)
          (zip_first Seated c.loop-place.batches.items c.loop-place.free.items shared c.remove-seats.result some
          c.remove-shared.ensures.value c.remove-seats.ensures.value was.free).1);
      noted = subst (AllZip Noted (take (place + 1) given)) (sym c.push_reserved.ensures.items)
          (zip_more Noted given c.loop-place.noted.items place shared.assignment c.in_ok-records.records
          (omega (arith, there, length-map all (λ (b : SharedBatch). b.assignment))) is was.noted
          c.in_ok-records.ensures.noted);
    }
