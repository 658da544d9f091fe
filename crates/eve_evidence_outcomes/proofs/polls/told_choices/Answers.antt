use Rattle.std.proofs.Common.{◌<◌, ℕ, List, length, length-set, subst, ◌∙◌, arith}
use Rattle.eve_grammar.specs.Spelling.{votes_at}
use Rattle.eve_grammar.specs.Trace.{Vote, head_of}
use Rattle.eve_grammar.proofs.HeadLimits.{head_has_limits}
use Rattle.eve_evidence_outcomes.specs.Polls.{votes_on, TellsChoice}
use Rattle.eve_evidence_outcomes.proofs.RequestCounts.{each_put}
use Rattle.eve_evidence_outcomes.proofs.polls.told_choices.Goals as goal

pub loop-v-preserved : goal.loop-v-preserved
loop-v-preserved c =
    let decoded = λ (ws : List (ℕ × Vote)). TellsChoice (votes_on c.args.n c.args.view ws) c.told_choice.result in
    let limits = head_has_limits (head_of c.args.trace.now) c.recall_limits.ensures.head in
    let there : c.loop-v.v < length c.loop-v.told =
    omega (
      arith,
      c.loop-v-test.true,
      c.verifier_count-v-end.ensures,
      limits.few_verifiers,
      c.loop-v.invariant.long,
    ) in
    record {
      long = length-set c.loop-v.told c.loop-v.v c.told_choice.result ∙ c.loop-v.invariant.long;
      each = each_put (λ (u : ℕ). TellsChoice (votes_on c.args.n c.args.view (votes_at c.args.trace.now u)))
          c.loop-v.told c.loop-v.v c.told_choice.result there c.loop-v.invariant.each
          (subst decoded c.votes.ensures c.told_choice.ensures);
    }

pub returns : goal.returns
returns c = λ u low.
    c.loop-v.invariant.each u (omega (arith, low, c.loop-v-test.false, c.verifier_count-v-end.ensures))
