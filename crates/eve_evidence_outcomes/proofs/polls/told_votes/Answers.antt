use Rattle.std.proofs.Common.{◌≡◌, ◌<◌, ℕ, List, length, length-set, ap, ◌∙◌, arith}
use Rattle.eve_grammar.specs.Bodies.{borrowed_choice}
use Rattle.eve_grammar.specs.Spelling.{votes_at}
use Rattle.eve_grammar.specs.Trace.{Vote, head_of}
use Rattle.eve_grammar.proofs.HeadLimits.{head_has_limits}
use Rattle.eve_evidence.specs.declared.evidence.VerifierVote.{VerifierVote}
use Rattle.eve_evidence_outcomes.specs.Polls.{votes_on, vote_told}
use Rattle.eve_evidence_outcomes.proofs.RequestCounts.{each_put}
use Rattle.eve_evidence_outcomes.proofs.polls.told_votes.Goals as goal

pub loop-v-preserved : goal.loop-v-preserved
loop-v-preserved c =
    let told = λ (ws : List (ℕ × Vote)). vote_told (borrowed_choice c.args.choice) (votes_on c.args.n c.args.view ws) in
    let limits = head_has_limits (head_of c.args.trace.now) c.recall_limits.ensures.head in
    let there : c.loop-v.v < length c.loop-v.told =
    omega (
      arith,
      c.loop-v-test.true,
      c.verifier_count-v-end.ensures,
      limits.few_verifiers,
      c.loop-v.invariant.long,
    ) in
    record {
      long = length-set c.loop-v.told c.loop-v.v c.told_vote.result ∙ c.loop-v.invariant.long;
      each = each_put (λ (u : ℕ) (x : VerifierVote). x ≡ told (votes_at c.args.trace.now u)) c.loop-v.told c.loop-v.v
          c.told_vote.result there c.loop-v.invariant.each (c.told_vote.ensures ∙ ap told c.votes.ensures);
    }

pub returns : goal.returns
returns c = λ u low.
    c.loop-v.invariant.each u (omega (arith, low, c.loop-v-test.false, c.verifier_count-v-end.ensures))
