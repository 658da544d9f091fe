use Rattle.std.proofs.Common.{◌≡◌, ◌≢◌, ℕ, [], ◌∷◌, sym, ◌∙◌, arith, rules}
use Rattle.std.proofs.lemmas.Option.{slice_get_within}
use Rattle.eve_grammar.specs.Trace.{Batch, request_id}
use Rattle.eve_grammar.specs.Bodies.{borrowed_asked}
use Rattle.eve_frames.specs.Decoded.{batch_decoded}
use Rattle.eve_evidence.proofs.Lists.{all_more, place_in_prefix}
use Rattle.eve_evidence_form.specs.Requests.{Listed, requests_listed}
use Rattle.eve_evidence_form.proofs.Lists.{all_before, all_before_end, none_left}
use Rattle.eve_evidence_form.proofs.RequestSearches.{dropped, listed_as, listed_there, length-listed}
use Rattle.eve_evidence_form.proofs.requests.first_in.Goals as goal

pub loop-asked-init : goal.loop-asked-init
loop-asked-init c =
    let items : c.into_iter-asked-iterator.result ≡ (batch_decoded c.args.batch.now).1.requests = search rules in
    (sym items, tt)

pub overflow_add-index : goal.overflow_add-index
overflow_add-index c =
    let own = (batch_decoded c.args.batch.now).1.requests in
    let first : c.loop-asked.asked-iterator ≡ borrowed_asked c.in-Some.asked ∷ c.next.new.self = search rules in
    let within = slice_get_within own c.loop-asked.index (borrowed_asked c.in-Some.asked)
    (dropped own c.loop-asked.index _ _ (c.loop-asked.invariant.0 ∙ first)).0 in
    omega (arith, within, c.requires)

pub returns-then-count-index-clause-none : goal.returns-then-count-index-clause-none
returns-then-count-index-clause-none c =
    let b : ℕ × (ℕ × Batch) = (c.args.batch.now.offset, batch_decoded c.args.batch.now) in
    all_before (λ (x : Listed). request_id x.asked ≢ (c.args.client, c.args.number)) (requests_listed b) c.args.count
    c.loop-asked.index (omega arith) c.loop-asked.invariant.1

pub returns-then-has_id-clause-first : goal.returns-then-has_id-clause-first
returns-then-has_id-clause-first c =
    let b : ℕ × (ℕ × Batch) = (c.args.batch.now.offset, batch_decoded c.args.batch.now) in
    let i = c.loop-asked.index in
    let y = borrowed_asked c.in-Some.asked in
    let first : c.loop-asked.asked-iterator ≡ y ∷ c.next.new.self = search rules in
    let got = (dropped b.1.1.requests i _ _ (c.loop-asked.invariant.0 ∙ first)).0 in
    place_in_prefix _ (requests_listed b) c.args.count i (listed_as b i y) (omega arith) (listed_there b i y got)
    (c.has_id.ensures.yes (search rules), (search rules), search rules, c.loop-asked.invariant.1)

pub loop-asked-preserved : goal.loop-asked-preserved
loop-asked-preserved c =
    let b : ℕ × (ℕ × Batch) = (c.args.batch.now.offset, batch_decoded c.args.batch.now) in
    let i = c.loop-asked.index in
    let y = borrowed_asked c.in-Some.asked in
    let first : c.loop-asked.asked-iterator ≡ y ∷ c.next.new.self = search rules in
    let there = dropped b.1.1.requests i _ _ (c.loop-asked.invariant.0 ∙ first) in (
      there.1,
      all_more (λ (x : Listed). request_id x.asked ≢ (c.args.client, c.args.number)) (requests_listed b) i
          (listed_as b i y)
          (listed_there b i y there.0) c.loop-asked.invariant.1 (c.has_id.ensures.no (search rules)),
    )

pub returns-clause-none : goal.returns-clause-none
returns-clause-none c =
    let b : ℕ × (ℕ × Batch) = (c.args.batch.now.offset, batch_decoded c.args.batch.now) in
    let none : c.loop-asked.asked-iterator ≡ [] = search rules in
    all_before_end (λ (x : Listed). request_id x.asked ≢ (c.args.client, c.args.number)) (requests_listed b)
    c.args.count
    c.loop-asked.index
    (omega (arith, length-listed b, none_left b.1.1.requests c.loop-asked.index (c.loop-asked.invariant.0 ∙ none)))
    c.loop-asked.invariant.1
