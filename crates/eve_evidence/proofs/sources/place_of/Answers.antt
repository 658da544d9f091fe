use Rattle.std.proofs.Common.{◌≢◌, ℕ, Some, subst, ap, ◌∙◌, arith}
use Rattle.std.specs.List.{AllByRecursion}
use Rattle.std.proofs.lemmas.List.{take_all}
use Rattle.eve_frames.specs.Decoded.{attempt_decoded}
use Rattle.eve_evidence.proofs.Lists.{all_more}
use Rattle.eve_evidence.proofs.RecordLookups.{before_at, before_all}
use Rattle.eve_evidence.proofs.sources.place_of.Goals as goal

pub returns-then-index_at-index-clause-before : goal.returns-then-index_at-index-clause-before
returns-then-index_at-index-clause-before c =
    before_at (attempt_decoded c.args.attempt.now).certificate c.loop-place.place c.args.index
    (c.index_at.ensures ∙ ap Some c.if-index_at-index.true) c.loop-place.invariant

pub loop-place-preserved : goal.loop-place-preserved
loop-place-preserved c =
    all_more (λ (j : ℕ). j ≢ c.args.index) (attempt_decoded c.args.attempt.now).certificate c.loop-place.place
    c.index_at.result c.index_at.ensures c.loop-place.invariant c.if-index_at-index.false

pub returns-clause-before : goal.returns-clause-before
returns-clause-before c =
    let order = (attempt_decoded c.args.attempt.now).certificate in
    let whole = take_all c.loop-place.place order (omega (
      arith,
      c.len-place-end.ensures.certificate,
      c.loop-place-test.false,
    )) in
    take_all c.len.result order (omega (arith, c.len.ensures.certificate))
    ∙ before_all order c.args.index (subst (AllByRecursion (λ j. j ≢ c.args.index)) whole c.loop-place.invariant)
