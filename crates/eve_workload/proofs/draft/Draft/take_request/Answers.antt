use Rattle.std.proofs.Common.{◌≡◌, ◌∷◌, [], ◌++◌, map, refl, sym, subst, ap, ◌∙◌, arith}
use Rattle.std.specs.List.{list_any}
use Rattle.eve_grammar.specs.Trace.{request_id}
use Rattle.eve_grammar.specs.Bodies.{borrowed_asked}
use Rattle.eve_workload.specs.Workload.{requests_of}
use Rattle.eve_workload.specs.Batches.{asked_lists}
use Rattle.eve_workload.specs.inner.RequestIds.{same_id, ids_in, AreSeen}
use Rattle.eve_workload.specs.Steps.{requests_in}
use Rattle.eve_workload.proofs.BatchLists.{batches_flat, batch_there, batches_counted}
use Rattle.eve_workload.proofs.DraftLines.{batches_kept, request_accepted, id_refused, is_known, is_fresh}
use Rattle.eve_workload.proofs.TextLines.{keeps_small}
use Rattle.eve_workload.proofs.draft.Draft.take_request.Goals as goal

pub returns-then-not-branch-clause-accepted : goal.returns-then-not-branch-clause-accepted
returns-then-not-branch-clause-accepted c = λ before keeps.
    let there : ids_in c.as_slice.result.now ≡ map request_id (requests_in before) =
    ap (λ bs. map request_id (requests_of (asked_lists bs))) c.as_slice.ensures.value
    ∙ ap (λ lists. map request_id (requests_of lists)) keeps.batches ∙ ap (map request_id) (batches_flat before) in
    let seen = subst (AreSeen c.args.self.now.request_ids) (sym there) keeps.request_ids in
    id_refused (borrowed_asked c.args.asked.now) before
    (ap (list_any (same_id (request_id (borrowed_asked c.args.asked.now)))) (sym there)
    ∙ is_known _ _ (c.in_ok-add.ensures.new seen) c.if-not-branch.true)

pub add_to_last-requires-clause-some : goal.add_to_last-requires-clause-some
add_to_last-requires-clause-some c =
    let before = c.requires.keeps.0 in
    let keeps = c.requires.keeps.1 in
    let some = batch_there before (borrowed_asked c.args.asked.now)
    (sym (c.takes_request.ensures before (borrowed_asked c.args.asked.now) keeps.last)
    ∙ c.if-not-takes_request.false) in
    omega (
      arith,
      some,
      batches_counted c.args.self.now.format before keeps.right,
      batches_kept c.args.self.now before keeps,
    )

pub overflow_add-self : goal.overflow_add-self
overflow_add-self c =
    let small = keeps_small c.args.self.now c.requires.keeps.0 c.requires.keeps.1 in
    omega (arith, small.requests)

pub returns-clause-accepted : goal.returns-clause-accepted
returns-clause-accepted c = λ before keeps.
    let there : ids_in c.as_slice.result.now ≡ map request_id (requests_in before) =
    ap (λ bs. map request_id (requests_of (asked_lists bs))) c.as_slice.ensures.value
    ∙ ap (λ lists. map request_id (requests_of lists)) keeps.batches ∙ ap (map request_id) (batches_flat before) in
    let seen = subst (AreSeen c.args.self.now.request_ids) (sym there) keeps.request_ids in
    let id = request_id (borrowed_asked c.args.asked.now) in
    request_accepted c.args.self.now c.add_to_last.new.batches c.add.new.self _ _ (borrowed_asked c.args.asked.now)
    before
    c.in_ok-add_to_last.ensures
    refl refl (omega arith) c.requires.right
    (sym (c.takes_request.ensures before (borrowed_asked c.args.asked.now) keeps.last)
    ∙ c.if-not-takes_request.false)
    (ap (list_any (same_id id)) (sym there)
    ∙ is_fresh _ _ (c.in_ok-add.ensures.new seen) c.if-not-branch.false)
    (subst (λ ids. AreSeen c.add.new.self (ids ++ id ∷ [])) there
    (c.in_ok-add.ensures.seen seen c.if-not-branch.false)) keeps
