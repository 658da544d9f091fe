use Rattle.std.proofs.Common.{◌≡◌, ℕ, true, take, rules}
use Rattle.std.specs.List.{flat_map}
use Rattle.eve_grammar.specs.Trace.{Batch}
use Rattle.eve_grammar.specs.Spelling.{batches_at}
use Rattle.eve_frames.specs.Decoded.{batch_decoded}
use Rattle.eve_evidence.proofs.Lists.{if_some}
use Rattle.eve_evidence_form.specs.declared.requests.FirstAsked.{FirstAsked}
use Rattle.eve_evidence_form.specs.Requests.{requests_listed, IsFirstAsked, is_in_set}
use Rattle.eve_evidence_form.proofs.RequestSearches.{first_behind}
use Rattle.eve_evidence_form.proofs.requests.earliest.Goals as goal

pub returns-then-contains-clause-first : goal.returns-then-contains-clause-first
returns-then-contains-clause-first c =
    let id = c.args.id in
    let own : ℕ × (ℕ × Batch) = (c.args.batch.now.offset, batch_decoded c.args.batch.now) in
    let before = flat_map requests_listed (take c.args.n (batches_at c.args.trace.now)) in
    let there : is_in_set c.args.unasked.now id ≡ true = search rules in
    let prefix = take c.args.count (requests_listed own) in
    if_some c.first_in.result (λ (f : FirstAsked). IsFirstAsked id prefix f.request f.at) _
    (λ f first. first_behind id before prefix f.request f.at
    (c.requires.unasked.0 there) first)
    c.first_in.ensures.first
