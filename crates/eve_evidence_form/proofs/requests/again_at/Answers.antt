use Rattle.std.proofs.Common.{◌≡◌, ℕ, ◌+◌, ◌-◌, Some, take, slice_get, sym, subst, ◌∙◌, arith, rules}
use Rattle.std.specs.List.{flat_map}
use Rattle.std.proofs.lemmas.Option.{same_Some}
use Rattle.eve_grammar.specs.Trace.{Batch}
use Rattle.eve_grammar.specs.Spelling.{batches_at}
use Rattle.eve_frames.specs.Decoded.{batch_decoded}
use Rattle.eve_evidence.proofs.Lists.{if_none_weaker, if_some}
use Rattle.eve_evidence_form.specs.declared.requests.AskedAgain.{AskedAgain}
use Rattle.eve_evidence_form.specs.Requests.{requests_listed, NoneAgain, IsFirstAgain}
use Rattle.eve_history.proofs.AllRequests.{few_requests}
use Rattle.eve_evidence_form.proofs.requests.again_at.Goals as goal

pub again_in-requires-clause-few : goal.again_in-requires-clause-few
again_in-requires-clause-few c =
    let t = c.args.trace.now in
    let own : ℕ × (ℕ × Batch) = (c.batch-batch.result.offset, batch_decoded c.batch-batch.result) in
    let same : c.args.n + 1 - 1 ≡ c.args.n = omega arith in
    few_requests t c.args.n own c.recall_limits.ensures
    (subst (λ (k : ℕ). slice_get (batches_at t) k ≡ Some own) same c.batch-batch.ensures.says)

pub returns-clause-again : goal.returns-clause-again
returns-clause-again c =
    let t = c.args.trace.now in
    let before = flat_map requests_listed (take c.args.n (batches_at t)) in
    let own : ℕ × (ℕ × Batch) = (c.batch-batch.result.offset, batch_decoded c.batch-batch.result) in
    let same : c.args.n + 1 - 1 ≡ c.args.n = omega arith in
    let there = subst (λ (k : ℕ). slice_get (batches_at t) k ≡ Some own) same c.batch-batch.ensures.says in
    let at : own.0 ≡ c.args.at = sym c.offset.ensures ∙ (search rules) in
    if_some c.again_in.result
    (λ (x : AskedAgain). IsFirstAgain before (requests_listed own) x.request x.first.request x.first.at) _
    (λ x again b got. subst (λ (d : ℕ × (ℕ × Batch)). (d.0 ≡ c.args.at)
    × IsFirstAgain before (requests_listed d) x.request x.first.request x.first.at) (same_Some own b (sym there
    ∙ got)) (at, again))
    c.again_in.ensures.again

pub returns-clause-none : goal.returns-clause-none
returns-clause-none c =
    let t = c.args.trace.now in
    let before = flat_map requests_listed (take c.args.n (batches_at t)) in
    let own : ℕ × (ℕ × Batch) = (c.batch-batch.result.offset, batch_decoded c.batch-batch.result) in
    let same : c.args.n + 1 - 1 ≡ c.args.n = omega arith in
    let there = subst (λ (k : ℕ). slice_get (batches_at t) k ≡ Some own) same c.batch-batch.ensures.says in
    if_none_weaker c.again_in.result (NoneAgain before (requests_listed own)) _
    (λ none b got at. subst (λ (d : ℕ × (ℕ × Batch)). NoneAgain before (requests_listed d)) (same_Some own b (sym there
    ∙ got)) none)
    c.again_in.ensures.none
