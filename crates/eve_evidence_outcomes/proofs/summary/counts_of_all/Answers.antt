use Rattle.std.proofs.Common.{◌<◌, ℕ, length, length-set, ◌∙◌, arith}
use Rattle.eve_grammar.specs.Trace.{head_of}
use Rattle.eve_grammar.proofs.HeadLimits.{head_has_limits}
use Rattle.eve_history.specs.SectionHistory.{section_history}
use Rattle.eve_evidence_outcomes.specs.Counts.{IsReplicaCounts}
use Rattle.eve_evidence_outcomes.proofs.RequestCounts.{each_put}
use Rattle.eve_evidence_outcomes.proofs.summary.counts_of_all.Goals as goal

pub loop-e-preserved : goal.loop-e-preserved
loop-e-preserved c =
    let t = c.args.trace.now in
    let limits = head_has_limits (head_of t) c.recall_limits.ensures.head in
    let there : c.loop-e.e < length c.loop-e.all =
    omega (
      arith,
      c.loop-e-test.true,
      c.section_count-e-end.ensures,
      limits.few_replicas,
      c.loop-e.invariant.long,
    ) in
    record {
      long = length-set c.loop-e.all c.loop-e.e c.counts_at.result ∙ c.loop-e.invariant.long;
      each = each_put (λ (k : ℕ). IsReplicaCounts (section_history t k)) c.loop-e.all c.loop-e.e c.counts_at.result
          there c.loop-e.invariant.each c.counts_at.ensures;
    }

pub returns : goal.returns
returns c = λ e low.
    c.loop-e.invariant.each e (omega (arith, low, c.loop-e-test.false, c.section_count-e-end.ensures))
