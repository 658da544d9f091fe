use Rattle.std.proofs.Common.{ℕ, sym, ◌∙◌, arith}
use Rattle.eve_grammar.specs.Trace.{Vote}
use Rattle.eve_frames.specs.Decoded.{vote_decoded}
use Rattle.eve_evidence_outcomes.proofs.VotesOnBatch.{on_yes, on_no, on_past}
use Rattle.eve_evidence_outcomes.proofs.votes.next_on.Goals as goal

pub returns-then-is_on-clause-next : goal.returns-then-is_on-clause-next
returns-then-is_on-clause-next c =
    let w : ℕ × Vote = (c.get-vote.result.offset, vote_decoded c.get-vote.result) in (
      w,
      c.get-vote.ensures.says,
      sym c.loop-i.invariant
          ∙ on_yes c.args.n c.args.view c.args.votes.now c.loop-i.i w c.get-vote.ensures.says
          (sym c.is_on.ensures ∙ c.if-is_on.true),
    )

pub loop-i-preserved : goal.loop-i-preserved
loop-i-preserved c =
    let w : ℕ × Vote = (c.get-vote.result.offset, vote_decoded c.get-vote.result) in
    sym (on_no c.args.n c.args.view c.args.votes.now c.loop-i.i w c.get-vote.ensures.says
    (sym c.is_on.ensures ∙ c.if-is_on.false))
    ∙ c.loop-i.invariant

pub returns-clause-none : goal.returns-clause-none
returns-clause-none c =
    sym c.loop-i.invariant
    ∙ on_past c.args.n c.args.view c.args.votes.now c.loop-i.i (omega (arith, c.loop-i-test.false, c.len-i-end.ensures))
