use Rattle.std.proofs.Common.{ℕ, sym, subst}
use Rattle.eve_grammar.specs.Trace.{Access}
use Rattle.eve_frames.specs.Decoded.{access_decoded, attempt_decoded}
use Rattle.eve_evidence.specs.declared.sources.Left.{Left}
use Rattle.eve_evidence.specs.declared.evidence.Source.TheVariants.{Write}
use Rattle.eve_evidence.specs.Sources.{passed_by, IsWriter}
use Rattle.eve_evidence.specs.inner.Lasts.{IsLeftAlone}
use Rattle.eve_evidence.proofs.LastWrites.{left_alone, none_alone}
use Rattle.eve_evidence.proofs.sources.left_at.Goals as goal

pub returns-in_default-left_by_record-clause-none : goal.returns-in_default-left_by_record-clause-none
returns-in_default-left_by_record-clause-none c =
    let seq = (attempt_decoded c.args.attempt.now).seq in
    let x : ℕ × Access = (c.in-Some.access.offset, access_decoded c.in-Some.access) in
    subst (λ (y : ℕ × Access). IsWriter c.args.row (passed_by seq y) → ⊥) (sym c.in-Some.ensures.found)
    (none_alone c.args.row (passed_by seq x) (sym c.in_default-left_by_record.ensures))

pub returns-clause-written : goal.returns-clause-written
returns-clause-written c =
    let seq = (attempt_decoded c.args.attempt.now).seq in
    let x : ℕ × Access = (c.in-Some.access.offset, access_decoded c.in-Some.access) in
    let l : Left = record {
      has = c.in-Some-left_by_record.has;
      by = Write c.index.result c.seq.result c.offset.result;
    } in
    subst (λ (y : ℕ × Access). IsLeftAlone c.args.row (passed_by seq y) l) (sym c.in-Some.ensures.found)
    (left_alone c.args.row (passed_by seq x) l (sym c.in-Some-left_by_record.ensures)
    (λ i. Write (c.index.ensures i) (c.seq.ensures i) (c.offset.ensures i)))
