use Rattle.std.proofs.Common.{◌≡◌, ℕ, [], ◌∷◌, sym, subst, rules}
use Rattle.eve_grammar.specs.Trace.{Batch, request_id}
use Rattle.eve_grammar.specs.Bodies.{borrowed_asked}
use Rattle.eve_frames.specs.Decoded.{batch_decoded}
use Rattle.eve_evidence_form.proofs.UnaskedIds.{NoneOf, none_listed, taken_out}
use Rattle.eve_evidence_form.proofs.requests.take_out.Goals as goal

pub loop-asked-init : goal.loop-asked-init
loop-asked-init c =
    let items : c.into_iter-asked-iterator.result ≡ (batch_decoded c.args.batch.now).1.requests = search rules in
    λ id. (λ here. (here.0, subst (NoneOf id) (sym items) here.1), λ here. (here.0, subst (NoneOf id) items here.1))

pub loop-asked-preserved : goal.loop-asked-preserved
loop-asked-preserved c =
    let y = borrowed_asked c.in-Some.asked in
    let first : c.loop-asked.asked-iterator ≡ y ∷ c.next.new.self = search rules in
    λ id.
    let out = taken_out (request_id y) id _ _ (c.remove.ensures.updates.0 id) in (
      λ here.
          let was = (c.loop-asked.invariant id).0 here in
          let parts = subst (NoneOf id) first was.1 in
          (out.1 (was.0, parts.0), parts.1),
      λ here.
          let was = out.0 here.0 in
          (c.loop-asked.invariant id).1 (was.0, subst (NoneOf id) (sym first) (was.1, here.1)),
    )

pub returns : goal.returns
returns c =
    let b : ℕ × (ℕ × Batch) = (c.args.batch.now.offset, batch_decoded c.args.batch.now) in
    let end : c.loop-asked.asked-iterator ≡ [] = search rules in
    λ id. (
      λ has.
          let was = (c.loop-asked.invariant id).1 (has, subst (NoneOf id) (sym end) tt) in
          (was.0, (none_listed id b).0 was.1),
      λ had. ((c.loop-asked.invariant id).0 (had.0, (none_listed id b).1 had.1)).0,
    )
