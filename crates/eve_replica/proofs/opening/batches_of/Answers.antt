use Rattle.std.proofs.Common.{◌≡◌, All, IsTrue, List, Vec, ◌∷◌, [], ◌++◌, length, map, sym, subst, ap, ◌∙◌, arith}
use Rattle.std.specs.List.{list_all}
use Rattle.std.specs.declared.alloc.Global.{Global}
use Rattle.std.proofs.lemmas.Bool.{and_parts}
use Rattle.std.proofs.lemmas.List.{map_push}
use Rattle.std.proofs.lemmas.List.Elements.{All-push}
use Rattle.eve_grammar.specs.Trace.{Asked, Batch}
use Rattle.eve_write.specs.Data.{asked, batch}
use Rattle.eve_write.specs.declared.request.RequestData.{RequestData}
use Rattle.eve_workload.specs.declared.mixer.MixedBatch.{MixedBatch}
use Rattle.eve_workload.specs.Batches.{asked_lists}
use Rattle.eve_workload.specs.Mixers.{cut, batch_with}
use Rattle.eve_workload.specs.Workload.{is_listed}
use Rattle.eve_replica.specs.inner.RunInvariant.{IsRightMixed}
use Rattle.eve_replica.proofs.opening.batches_of.Goals as goal

-- the first of lists that are right, and those behind it
first_right : (first : Vec RequestData Global) (rest all : List (Vec RequestData Global)) → all ≡ first ∷ rest
    → IsTrue (list_all is_listed (asked_lists all))
    → IsTrue (is_listed (map asked first.items)) × IsTrue (list_all is_listed (asked_lists rest))
first_right first rest all is right =
    and_parts (is_listed (map asked first.items)) (list_all is_listed (asked_lists rest))
    (subst (λ lists. IsTrue (list_all is_listed (asked_lists lists))) is right)

pub cut_batch-requires : goal.cut_batch-requires
cut_batch-requires c =
    (first_right c.in-Some.requests _ _ c.in-Some.ensures.steps.0 c.loop-requests.invariant.left).0

pub loop-requests-preserved : goal.loop-requests-preserved
loop-requests-preserved c =
    let names = c.args.names.now.items in
    let made : List Asked → Batch = λ requests. batch_with (cut names c.args.mixer requests) in
    let list : Vec RequestData Global → List Asked = λ one. map asked one.items in
    let plain : MixedBatch → Batch = λ m. batch m.batch in
    let one : MixedBatch = c.in_ok-batch.batch in
    record {
      cut = ap (map plain) c.push_reserved.ensures.items ∙ map_push plain c.loop-requests.batches.items one
          ∙ (λ k. c.loop-requests.invariant.cut k ++ c.in_ok-batch.ensures.cut k ∷ [])
          ∙ sym (ap (map made) (map_push list c.loop-requests.yielded c.in-Some.requests)
          ∙ map_push made (asked_lists c.loop-requests.yielded) (list c.in-Some.requests));
      mixed = subst (All (IsRightMixed names)) (sym c.push_reserved.ensures.items)
          (All-push (IsRightMixed names) c.loop-requests.batches.items one c.loop-requests.invariant.mixed
          c.in_ok-batch.ensures.mixed);
      room = omega (
        arith,
        c.loop-requests.invariant.room,
        c.push_reserved.ensures.len,
        c.push_reserved.ensures.capacity,
        ap length c.in-Some.ensures.steps.0,
      );
      left = (first_right c.in-Some.requests _ _ c.in-Some.ensures.steps.0 c.loop-requests.invariant.left).1;
    }
