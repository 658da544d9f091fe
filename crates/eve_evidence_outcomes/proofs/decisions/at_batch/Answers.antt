use Rattle.std.proofs.Common.{◌≡◌, ℕ, ◌-◌, sym, subst, ap, ◌∙◌, arith}
use Rattle.std.proofs.lemmas.Option.{same_Some}
use Rattle.eve_grammar.specs.Trace.{Batch}
use Rattle.eve_grammar.specs.Spelling.{batches_at}
use Rattle.eve_frames.specs.Decoded.{batch_decoded}
use Rattle.eve_votes.specs.Faults.{HasTwoDecisions}
use Rattle.eve_evidence.proofs.Lists.{place_at, if_some, if_none_weaker}
use Rattle.eve_evidence_outcomes.specs.Decisions.{TellsDecisions, TellsTwoDecisions}
use Rattle.eve_evidence_outcomes.proofs.decisions.at_batch.Goals as goal

pub returns-clause-told : goal.returns-clause-told
returns-clause-told c =
    let t = c.args.trace.now in
    let y : ℕ × (ℕ × Batch) = (c.batch-batch.result.offset, batch_decoded c.batch-batch.result) in
    let here : y.0 ≡ c.args.place = omega (arith, c.if-offset-place.false, c.offset.ensures) in
    if_some c.first_decisions.result (TellsDecisions t c.seq.result) (TellsTwoDecisions t c.args.place)
    (λ x told.
    place_at (λ _ b. (b.0 ≡ c.args.place) × TellsDecisions t b.1.0 x) (batches_at t) (c.args.number - 1) y
    c.batch-batch.ensures.says (here, subst (λ (n : ℕ). TellsDecisions t n x) c.seq.ensures told))
    c.first_decisions.ensures.told

pub returns-clause-none : goal.returns-clause-none
returns-clause-none c =
    let t = c.args.trace.now in
    let y : ℕ × (ℕ × Batch) = (c.batch-batch.result.offset, batch_decoded c.batch-batch.result) in
    if_none_weaker c.first_decisions.result (¬ HasTwoDecisions t c.seq.result) _
    (λ none b got wrong.
    let same : y ≡ b = same_Some y b (sym c.batch-batch.ensures.says ∙ got) in
    none (subst (HasTwoDecisions t) (sym (c.seq.ensures ∙ ap (λ (x : ℕ × (ℕ × Batch)). x.1.0) same)) wrong.1))
    c.first_decisions.ensures.none
