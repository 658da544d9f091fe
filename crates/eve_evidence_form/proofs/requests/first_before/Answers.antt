use Rattle.std.proofs.Common.{◌≡◌, ◌≢◌, ℕ, ◌+◌, ◌-◌, List, take, slice_get, Some, sym, subst, arith}
use Rattle.std.specs.List.{flat_map}
use Rattle.std.proofs.lemmas.List.{take_all}
use Rattle.eve_grammar.specs.Trace.{Batch, request_id}
use Rattle.eve_grammar.proofs.Lists.{all-append}
use Rattle.eve_grammar.specs.Spelling.{batches_at}
use Rattle.eve_frames.specs.Decoded.{batch_decoded}
use Rattle.eve_evidence_form.specs.Requests.{Listed, requests_listed, NoneAsked, IsFirstAsked}
use Rattle.eve_history.proofs.AllRequests.{few_requests}
use Rattle.eve_evidence_form.proofs.RequestSearches.{length-listed, one_batch_more, first_in_batch}
use Rattle.eve_evidence_form.proofs.requests.first_before.Goals as goal

pub first_in-requires : goal.first_in-requires
first_in-requires c =
    let t = c.args.trace.now in
    let own : ℕ × (ℕ × Batch) = (c.batch-batch.result.offset, batch_decoded c.batch-batch.result) in
    let same : c.loop-i.i + 1 - 1 ≡ c.loop-i.i = omega arith in
    few_requests t c.loop-i.i own c.recall_limits.ensures
    (subst (λ (k : ℕ). slice_get (batches_at t) k ≡ Some own) same c.batch-batch.ensures.says)

pub returns-in-Some-clause-first : goal.returns-in-Some-clause-first
returns-in-Some-clause-first c =
    let t = c.args.trace.now in
    let own : ℕ × (ℕ × Batch) = (c.batch-batch.result.offset, batch_decoded c.batch-batch.result) in
    let same : c.loop-i.i + 1 - 1 ≡ c.loop-i.i = omega arith in
    let whole : take c.len.result (requests_listed own) ≡ requests_listed own =
    take_all c.len.result (requests_listed own) (omega (arith, length-listed own, c.len.ensures)) in
    first_in_batch (c.args.client, c.args.number) (batches_at t) c.loop-i.i c.args.n own c.in-Some.first.request
    c.in-Some.first.at c.loop-i-test.true
    (subst (λ (k : ℕ). slice_get (batches_at t) k ≡ Some own) same c.batch-batch.ensures.says) c.loop-i.invariant
    (subst (λ (xs : List Listed). IsFirstAsked (c.args.client, c.args.number) xs c.in-Some.first.request
    c.in-Some.first.at) whole c.in-Some.ensures.first)

pub loop-i-preserved : goal.loop-i-preserved
loop-i-preserved c =
    let t = c.args.trace.now in
    let id : ℕ × ℕ = (c.args.client, c.args.number) in
    let own : ℕ × (ℕ × Batch) = (c.batch-batch.result.offset, batch_decoded c.batch-batch.result) in
    let same : c.loop-i.i + 1 - 1 ≡ c.loop-i.i = omega arith in
    let whole : take c.len.result (requests_listed own) ≡ requests_listed own =
    take_all c.len.result (requests_listed own) (omega (arith, length-listed own, c.len.ensures)) in
    subst (NoneAsked id) (sym (one_batch_more (batches_at t) c.loop-i.i own
    (subst (λ (k : ℕ). slice_get (batches_at t) k ≡ Some own) same c.batch-batch.ensures.says)))
    (all-append (λ (x : Listed). request_id x.asked ≢ id) (flat_map requests_listed (take c.loop-i.i (batches_at t)))
    (requests_listed own) c.loop-i.invariant
    (subst (NoneAsked id) whole c.in_default.ensures.none))

pub returns-clause-none : goal.returns-clause-none
returns-clause-none c =
    let t = c.args.trace.now in
    let same : c.loop-i.i ≡ c.args.n = omega (arith, c.loop-i-test.false, c.loop-i.auto.i-end) in
    subst (λ (k : ℕ). NoneAsked (c.args.client, c.args.number) (flat_map requests_listed (take k (batches_at t)))) same
    c.loop-i.invariant
