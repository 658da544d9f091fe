use Rattle.std.proofs.Common.{◌≡◌, List, ◌∷◌, subst}
use Rattle.eve_grammar.specs.Trace.{Asked, RequestId}
use Rattle.eve_grammar.specs.Bodies.{borrowed_asked}
use Rattle.eve_frames.specs.Decoded.{batch_decoded}
use Rattle.eve_evidence_outcomes.proofs.BatchRequests.{IsLooking, looking_found, looking_more}
use Rattle.eve_evidence_outcomes.proofs.sent.request_with.Goals as goal

pub returns-then-has_id-clause-found : goal.returns-then-has_id-clause-found
returns-then-has_id-clause-found c =
    let id : RequestId = (c.args.client, c.args.number) in
    let own = (batch_decoded c.args.batch.now).1.requests in
    let x = borrowed_asked c.in-Some.asked in
    let split : c.loop-asked.asked-iterator ≡ x ∷ c.next.new.self = c.in-Some.ensures.steps in
    record {
      there = looking_found id own c.loop-asked.index x c.next.new.self
          (subst (λ (rest : List Asked). IsLooking id own rest c.loop-asked.index) split c.loop-asked.invariant);
      has = c.has_id.ensures.yes c.if-has_id.true;
    }

pub loop-asked-preserved : goal.loop-asked-preserved
loop-asked-preserved c =
    let id : RequestId = (c.args.client, c.args.number) in
    let own = (batch_decoded c.args.batch.now).1.requests in
    let x = borrowed_asked c.in-Some.asked in
    let split : c.loop-asked.asked-iterator ≡ x ∷ c.next.new.self = c.in-Some.ensures.steps in
    looking_more id own c.loop-asked.index x c.next.new.self
    (subst (λ (rest : List Asked). IsLooking id own rest c.loop-asked.index) split c.loop-asked.invariant)
    (c.has_id.ensures.no c.if-has_id.false)
