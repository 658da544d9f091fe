use Rattle.std.proofs.Common.{◌≡◌, ℕ, ◌+◌, ◌-◌, List, take, slice_get, Some, sym, subst, arith}
use Rattle.std.specs.List.{flat_map}
use Rattle.eve_grammar.specs.Trace.{Batch}
use Rattle.eve_grammar.specs.Spelling.{batches_at}
use Rattle.eve_frames.specs.Decoded.{batch_decoded}
use Rattle.eve_evidence_form.specs.Requests.{Listed, requests_listed, LeavesUnasked}
use Rattle.eve_evidence_form.proofs.RequestSearches.{one_batch_more}
use Rattle.eve_evidence_form.proofs.UnaskedIds.{left_behind_both}
use Rattle.eve_evidence_form.proofs.requests.take_out_before.Goals as goal

pub loop-i-init : goal.loop-i-init
loop-i-init c = λ id. (λ has. (has, tt), λ had. had.0)

pub loop-i-preserved : goal.loop-i-preserved
loop-i-preserved c =
    let t = c.args.trace.now in
    let own : ℕ × (ℕ × Batch) = (c.batch-batch.result.offset, batch_decoded c.batch-batch.result) in
    let same : c.loop-i.i + 1 - 1 ≡ c.loop-i.i = omega arith in
    subst (λ (xs : List Listed). LeavesUnasked c.args.ids.now xs c.take_out.new.ids)
    (sym (one_batch_more (batches_at t) c.loop-i.i own
    (subst (λ (k : ℕ). slice_get (batches_at t) k ≡ Some own) same c.batch-batch.ensures.says)))
    (left_behind_both c.args.ids.now c.loop-i.ids c.take_out.new.ids
    (flat_map requests_listed (take c.loop-i.i (batches_at t))) (requests_listed own) c.loop-i.invariant
    c.take_out.ensures)

pub returns : goal.returns
returns c =
    let t = c.args.trace.now in
    let same : c.loop-i.i ≡ c.args.n = omega (arith, c.loop-i-test.false, c.loop-i.auto.i-end) in
    subst (λ (k : ℕ). LeavesUnasked c.args.ids.now (flat_map requests_listed (take k (batches_at t))) c.loop-i.ids) same
    c.loop-i.invariant
