use Rattle.std.proofs.Common.{◌≡◌, ℕ, [], ◌∷◌, sym, subst, rules}
use Rattle.eve_grammar.specs.Trace.{Batch, request_id}
use Rattle.eve_grammar.specs.Bodies.{borrowed_asked}
use Rattle.eve_frames.specs.Decoded.{batch_decoded}
use Rattle.eve_evidence_form.proofs.UnaskedIds.{NoneOf, none_listed, put_in}
use Rattle.eve_evidence_form.proofs.requests.ids_of.Goals as goal

pub loop-asked-init : goal.loop-asked-init
loop-asked-init c =
    let items : c.into_iter-asked-iterator.result ≡ (batch_decoded c.args.batch.now).1.requests = search rules in
    λ id _ none. subst (NoneOf id) items none

pub loop-asked-preserved : goal.loop-asked-preserved
loop-asked-preserved c =
    let y = borrowed_asked c.in-Some.asked in
    let first : c.loop-asked.asked-iterator ≡ y ∷ c.next.new.self = search rules in
    λ id lacks none.
    let parts = put_in (request_id y) id _ _ (c.in_ok-insert.ensures.updates.0 id) lacks in
    c.loop-asked.invariant id parts.0 (subst (NoneOf id) (sym first) (parts.1, none))

pub returns : goal.returns
returns c =
    let b : ℕ × (ℕ × Batch) = (c.args.batch.now.offset, batch_decoded c.args.batch.now) in
    let end : c.loop-asked.asked-iterator ≡ [] = search rules in
    λ id lacks. (none_listed id b).0 (c.loop-asked.invariant id lacks (subst (NoneOf id) (sym end) tt))
