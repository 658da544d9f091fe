use Rattle.std.proofs.Common.{◌≡◌, ℕ, ◌++◌, [], ◌∷◌, take, sym, subst, ◌∙◌, arith, rules}
use Rattle.std.specs.List.{flat_map}
use Rattle.std.proofs.lemmas.List.{take_all}
use Rattle.std.proofs.lemmas.Option.{slice_get_within}
use Rattle.eve_grammar.specs.Trace.{Batch, request_id}
use Rattle.eve_grammar.specs.Bodies.{borrowed_asked}
use Rattle.eve_grammar.specs.Spelling.{batches_at}
use Rattle.eve_frames.specs.Decoded.{batch_decoded}
use Rattle.eve_evidence.proofs.Lists.{place_at, no_place_more}
use Rattle.eve_evidence_form.specs.Requests.{requests_listed, NoneAsked, NoneAgain}
use Rattle.eve_history.proofs.Places.{no_place}
use Rattle.eve_evidence_form.proofs.Lists.{none_left}
use Rattle.eve_evidence_form.proofs.RequestSearches.{dropped, listed_as, listed_there, length-listed}
use Rattle.eve_evidence_form.proofs.UnaskedIds.{none_itself}
use Rattle.eve_evidence_form.proofs.requests.again_in.Goals as goal

pub loop-asked-init : goal.loop-asked-init
loop-asked-init c =
    let items : c.into_iter-asked-iterator.result ≡ (batch_decoded c.args.batch.now).1.requests = search rules in
    (sym items, λ place. no_place _ place)

pub overflow_add-index : goal.overflow_add-index
overflow_add-index c =
    let own = (batch_decoded c.args.batch.now).1.requests in
    let first : c.loop-asked.asked-iterator ≡ borrowed_asked c.in-Some.asked ∷ c.next.new.self = search rules in
    let within = slice_get_within own c.loop-asked.index (borrowed_asked c.in-Some.asked)
    (dropped own c.loop-asked.index _ _ (c.loop-asked.invariant.0 ∙ first)).0 in
    omega (arith, within, c.requires.few)

pub earliest-requires-clause-unasked : goal.earliest-requires-clause-unasked
earliest-requires-clause-unasked c =
    let b : ℕ × (ℕ × Batch) = (c.args.batch.now.offset, batch_decoded c.args.batch.now) in
    let i = c.loop-asked.index in
    let y = borrowed_asked c.in-Some.asked in
    let first : c.loop-asked.asked-iterator ≡ y ∷ c.next.new.self = search rules in
    let got = (dropped b.1.1.requests i _ _ (c.loop-asked.invariant.0 ∙ first)).0 in
    c.requires.unasked (request_id y)
    (λ none. none_itself (requests_listed b) i (listed_as b i y) (listed_there b i y got) none)

pub returns-in-Some-earliest-clause-again : goal.returns-in-Some-earliest-clause-again
returns-in-Some-earliest-clause-again c =
    let b : ℕ × (ℕ × Batch) = (c.args.batch.now.offset, batch_decoded c.args.batch.now) in
    let i = c.loop-asked.index in
    let y = borrowed_asked c.in-Some.asked in
    let first : c.loop-asked.asked-iterator ≡ y ∷ c.next.new.self = search rules in
    let got = (dropped b.1.1.requests i _ _ (c.loop-asked.invariant.0 ∙ first)).0 in
    place_at _ (requests_listed b) i (listed_as b i y) (listed_there b i y got)
    ((search rules), c.loop-asked.invariant.1, c.in-Some-earliest.ensures.first)

pub loop-asked-preserved : goal.loop-asked-preserved
loop-asked-preserved c =
    let b : ℕ × (ℕ × Batch) = (c.args.batch.now.offset, batch_decoded c.args.batch.now) in
    let before = flat_map requests_listed (take c.args.n (batches_at c.args.trace.now)) in
    let i = c.loop-asked.index in
    let y = borrowed_asked c.in-Some.asked in
    let first : c.loop-asked.asked-iterator ≡ y ∷ c.next.new.self = search rules in
    let there = dropped b.1.1.requests i _ _ (c.loop-asked.invariant.0 ∙ first) in (
      there.1,
      no_place_more (λ earlier x. ¬ NoneAsked (request_id x.asked) (before ++ earlier)) (requests_listed b) i
          (listed_as b i y)
          (listed_there b i y there.0) c.loop-asked.invariant.1 (λ wrong. wrong c.in_default.ensures.none),
    )

pub returns-clause-none : goal.returns-clause-none
returns-clause-none c =
    let b : ℕ × (ℕ × Batch) = (c.args.batch.now.offset, batch_decoded c.args.batch.now) in
    let before = flat_map requests_listed (take c.args.n (batches_at c.args.trace.now)) in
    let none : c.loop-asked.asked-iterator ≡ [] = search rules in
    subst (NoneAgain before) (take_all c.loop-asked.index (requests_listed b)
    (omega (arith, length-listed b, none_left b.1.1.requests c.loop-asked.index (c.loop-asked.invariant.0 ∙ none))))
    c.loop-asked.invariant.1
