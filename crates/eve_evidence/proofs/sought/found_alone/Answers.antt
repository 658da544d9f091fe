use Rattle.std.proofs.Common.{ℕ, sym, subst}
use Rattle.eve_grammar.specs.Trace.{Access}
use Rattle.eve_frames.specs.Decoded.{attempt_decoded}
use Rattle.eve_history.proofs.Places.{no_place}
use Rattle.eve_evidence.specs.declared.evidence.Source.TheVariants.{Write}
use Rattle.eve_evidence.specs.Sources.{passed_by}
use Rattle.eve_evidence.specs.Sought.{RecordMeets, IsFoundAlone}
use Rattle.eve_evidence.proofs.sought.found_alone.Goals as goal

pub returns-in_default-clause-none : goal.returns-in_default-clause-none
returns-in_default-clause-none c =
    let seq = (attempt_decoded c.args.attempt.now).seq in
    subst (λ (y : ℕ × Access). ¬ RecordMeets c.args.sought.now (passed_by seq y)) (sym c.in_default.ensures.none)
    (λ place. no_place _ place)

pub returns-then-not-has_met-clause-none : goal.returns-then-not-has_met-clause-none
returns-then-not-has_met-clause-none c =
    let seq = (attempt_decoded c.args.attempt.now).seq in
    subst (λ (y : ℕ × Access). ¬ RecordMeets c.args.sought.now (passed_by seq y)) (sym c.in-Some.ensures.found)
    (c.has_met.ensures.no c.if-not-has_met.true)

pub returns-clause-met : goal.returns-clause-met
returns-clause-met c =
    let seq = (attempt_decoded c.args.attempt.now).seq in
    let source = Write c.index.result c.seq.result c.offset.result in
    subst (λ (y : ℕ × Access). IsFoundAlone c.args.sought.now (passed_by seq y) source) (sym c.in-Some.ensures.found)
    (record {
      has = c.has_met.ensures.yes c.if-not-has_met.false;
      source_is = λ i. Write (c.index.ensures i) (c.seq.ensures i) (c.offset.ensures i);
    })
