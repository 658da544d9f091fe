use Rattle.std.proofs.Common.{◌≡◌, ℕ, ◌+◌, ◌<◌, ◌++◌, List, [], length, take, sym, ap, ◌∙◌, arith}
use Rattle.std.proofs.lemmas.List.{take_more, length-take-le}
use Rattle.eve_grammar.specs.Spelling.{votes_of}
use Rattle.eve_grammar.specs.declared.head.Head.{Head}
use Rattle.eve_votes.specs.Ballots.{ballots_from, ballots_among}
use Rattle.eve_votes.specs.declared.ballots.Ballot.{Ballot}
use Rattle.eve_votes.proofs.AllVotes.{among_more}
use Rattle.eve_votes.proofs.voting.votes_in.Goals as goal

pub loop-verifier-preserved : goal.loop-verifier-preserved
loop-verifier-preserved c =
    let t = c.args.trace.now in
    let v = c.loop-verifier.verifier in
    let many : c.head-verifier-end.result.verifiers ≡ length t.verifiers =
    ap (λ (h : Head). h.verifiers) c.head-verifier-end.ensures in
    let there : v < length t.verifiers = omega (arith, many, c.loop-verifier-test.true) in
    let prefix : length (take v t.verifiers) ≡ v = length-take-le v t.verifiers (omega arith) in
    let number : 0 + length (take v t.verifiers) ≡ v = omega arith in
    c.in_ok-append.ensures
    ∙ ap (λ (bs : List Ballot). bs ++ ballots_from v 0 (votes_of t v)) c.loop-verifier.invariant
    ∙ ap (λ (u : ℕ). ballots_among 0 (take v t.verifiers) ++ ballots_from u 0 (votes_of t v)) (sym number)
    ∙ sym (among_more 0 (take v t.verifiers) (votes_of t v))
    ∙ ap (ballots_among 0) (sym (take_more t.verifiers v [] there))
