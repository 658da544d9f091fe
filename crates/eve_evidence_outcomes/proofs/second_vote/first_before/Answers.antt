use Rattle.std.proofs.Common.{◌≡◌, ℕ, take, sym, subst, ◌∙◌, arith}
use Rattle.std.proofs.lemmas.Option.{same_Some}
use Rattle.eve_grammar.specs.Trace.{Vote}
use Rattle.eve_frames.specs.Decoded.{vote_decoded}
use Rattle.eve_votes.specs.Faults.{IsFurther}
use Rattle.eve_evidence.specs.declared.evidence.SecondVote.{SecondVote}
use Rattle.eve_evidence_outcomes.specs.SecondVote.{IsSecond}
use Rattle.eve_evidence_outcomes.proofs.SecondVotes.{no_further, second_is}
use Rattle.eve_evidence_outcomes.proofs.second_vote.first_before.Goals as goal

pub returns-in_default-clause-none : goal.returns-in_default-clause-none
returns-in_default-clause-none c = λ w got at.
    let before = take c.args.i c.args.votes.now in
    let y : ℕ × Vote = (c.get-vote.result.offset, vote_decoded c.get-vote.result) in
    let same : y ≡ w = same_Some y w (sym c.get-vote.ensures.says ∙ got) in
    subst (λ (u : ℕ × Vote). ¬ IsFurther before u) same
    (no_further before y c.seq-n.result c.view-view.result c.seq-n.ensures c.view-view.ensures
    c.in_default.ensures.none)

pub returns-clause-first : goal.returns-clause-first
returns-clause-first c = λ w got.
    let before = take c.args.i c.args.votes.now in
    let y : ℕ × Vote = (c.get-vote.result.offset, vote_decoded c.get-vote.result) in
    let first : ℕ × Vote = (c.in-Some.first.offset, vote_decoded c.in-Some.first) in
    let own : SecondVote = record {
      verifier = c.args.verifier;
      batch = c.seq-n.result;
      view = c.view-view.result;
      choice = c.choice.result;
      first = c.offset-2.result;
      first_choice = c.choice-2.result;
    } in
    let same : y ≡ w = same_Some y w (sym c.get-vote.ensures.says ∙ got) in
    let here : y.0 ≡ c.args.at = omega (arith, c.if-offset-at.false, c.offset.ensures) in
    subst (λ (u : ℕ × Vote). (u.0 ≡ c.args.at) × IsSecond before u own) same (
      here,
      second_is before y first own c.seq-n.ensures c.view-view.ensures c.choice.ensures
          c.in-Some.ensures.first c.offset-2.ensures c.choice-2.ensures,
    )
