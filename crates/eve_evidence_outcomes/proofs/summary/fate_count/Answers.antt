use Rattle.std.proofs.Common.{ℕ, ◌+◌, count_by, take, ap, ◌∙◌, arith}
use Rattle.eve_evidence_outcomes.specs.Counts.{is_fate}
use Rattle.eve_evidence_outcomes.proofs.RequestCounts.{count_more}
use Rattle.eve_evidence_outcomes.proofs.summary.fate_count.Goals as goal

pub loop-i-preserved : goal.loop-i-preserved
loop-i-preserved c = record {
  count = ap (λ (k : ℕ). k + c.one_if-count.result) c.loop-i.invariant.count
      ∙ ap (λ (k : ℕ). count_by (is_fate c.args.of) (take c.loop-i.i c.args.history.now.fates) + k)
      c.one_if-count.ensures.is
      ∙ count_more (is_fate c.args.of) c.args.history.now.fates c.loop-i.i c.fate.result c.fate.ensures;
  few = omega (arith, c.loop-i.invariant.few, c.one_if-count.ensures.few);
}
