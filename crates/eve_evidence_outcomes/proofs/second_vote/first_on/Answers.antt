use Rattle.std.proofs.Common.{◌≡◌, ℕ, refl, sym, ◌∙◌}
use Rattle.std.specs.Prelude.{IsTrue, IsFalse}
use Rattle.std.specs.List.{AllByRecursion}
use Rattle.eve_grammar.specs.Trace.{Vote}
use Rattle.eve_frames.specs.Decoded.{vote_decoded}
use Rattle.eve_votes.specs.Votes.{is_vote_on}
use Rattle.eve_evidence.proofs.Lists.{all_more, place_in_prefix}
use Rattle.eve_evidence_outcomes.proofs.second_vote.first_on.Goals as goal

pub returns-then-is_on-clause-first : goal.returns-then-is_on-clause-first
returns-then-is_on-clause-first c =
    let y : ℕ × Vote = (c.get-vote.result.offset, vote_decoded c.get-vote.result) in
    place_in_prefix (λ earlier u. (u ≡ y) × IsTrue (is_vote_on c.args.n c.args.view u.1)
    × AllByRecursion (λ z. IsFalse (is_vote_on c.args.n c.args.view z.1)) earlier) c.args.votes.now c.args.count
    c.loop-i.i y c.loop-i-test.true c.get-vote.ensures.says
    (refl, sym c.is_on.ensures ∙ c.if-is_on.true, c.loop-i.invariant)

pub loop-i-preserved : goal.loop-i-preserved
loop-i-preserved c =
    all_more (λ (z : ℕ × Vote). IsFalse (is_vote_on c.args.n c.args.view z.1)) c.args.votes.now c.loop-i.i
    (c.get-vote.result.offset, vote_decoded c.get-vote.result) c.get-vote.ensures.says c.loop-i.invariant
    (sym c.is_on.ensures ∙ c.if-is_on.false)
