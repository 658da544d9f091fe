use Rattle.std.proofs.Common.{◌≡◌, ℕ, ◌+◌, ◌≤◌, ◌++◌, List, [], ◌∷◌, length, take, Some, sym, ap, ◌∙◌, append_assoc}
use Rattle.std.proofs.Common.{arith}
use Rattle.std.specs.Prelude.{slice_get}
use Rattle.std.proofs.lemmas.List.{take_all, length-take-le}
use Rattle.std.proofs.lemmas.Option.{slice_get_within}
use Rattle.eve_grammar.specs.Trace.{Vote}
use Rattle.eve_grammar.specs.Spelling.{votes_of}
use Rattle.eve_grammar.proofs.Lists.{take_one_more}
use Rattle.eve_frames.specs.Views.{vote_in}
use Rattle.eve_votes.specs.Ballots.{ballot, ballots_from}
use Rattle.eve_votes.specs.declared.ballots.Ballot.{Ballot}
use Rattle.eve_views.proofs.CutLaws.{few_votes}
use Rattle.eve_votes.proofs.DecisionLaws.{vote_got, vote_count}
use Rattle.eve_votes.proofs.AllVotes.{from_more}
use Rattle.eve_votes.proofs.voting.append.Goals as goal

pub overflow_cast-place : goal.overflow_cast-place
overflow_cast-place c =
    let t = c.args.trace.now in
    let v = c.args.verifier in
    let few = few_votes t v c.requires in
    let short = c.bytes-bytes.ensures.short in
    record {
      fits = omega (
        arith,
        few,
        short,
        vote_count t v,
        ap length c.votes-votes.ensures,
        c.loop-place-test.true,
        c.len-place-end.ensures,
      );
    }

pub loop-place-preserved : goal.loop-place-preserved
loop-place-preserved c =
    let t = c.args.trace.now in
    let v = c.args.verifier in
    let i = c.loop-place.place in
    let w = vote_in c.get-vote.result.bytes.now in
    let ws = votes_of t v in
    let got : slice_get ws i ≡ Some w = vote_got t v i c.get-vote.result.offset w (ap (λ (xs : List (ℕ ×
    Vote)). slice_get xs i) (sym c.votes-votes.ensures) ∙ c.get-vote.ensures.says) in
    let inside = slice_get_within ws i w got in
    let many : length (take i ws) ≡ i = length-take-le i ws (omega arith) in
    let place : 0 + length (take i ws) ≡ i = omega arith in
    let all : ballots_from v 0 (take (i + 1) ws) ≡ ballots_from v 0 (take i ws) ++ ballot v i w ∷ [] =
    ap (ballots_from v 0) (take_one_more ws i w got) ∙ from_more v 0 (take i ws) w ∙
    ap (λ (k : ℕ). ballots_from v 0 (take i ws) ++ ballot v k w ∷ []) place in
    let pushed : Ballot = record { seq = c.seq.result; view = c.view.result; verifier = v; place = i } in
    let same : pushed ≡ ballot v i w =
    λ k. record { seq = c.seq.ensures k; view = c.view.ensures k; verifier = v; place = i } in
    c.in_ok-push.ensures.items
    ∙ ap (λ (bs : List Ballot). bs ++ pushed ∷ []) c.loop-place.invariant
    ∙ append_assoc c.args.ballots.now.items (ballots_from v 0 (take i ws)) (pushed ∷ [])
    ∙ ap (λ (b : Ballot). c.args.ballots.now.items ++ (ballots_from v 0 (take i ws) ++ b ∷ [])) same
    ∙ ap (λ (bs : List Ballot). c.args.ballots.now.items ++ bs) (sym all)

pub returns : goal.returns
returns c =
    let t = c.args.trace.now in
    let v = c.args.verifier in
    let past : length (votes_of t v) ≤ c.loop-place.place = omega (
      arith,
      vote_count t v,
      ap length c.votes-votes.ensures,
      c.loop-place-test.false,
      c.len-place-end.ensures,
    ) in
    c.loop-place.invariant ∙
    ap (λ (ws : List Vote). c.args.ballots.now.items ++ ballots_from v 0 ws)
    (take_all c.loop-place.place (votes_of t v) past)
