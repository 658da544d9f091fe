use Rattle.std.proofs.Common.{◌≡◌, List, length, sym, subst, ap, ◌∙◌, arith}
use Rattle.std.specs.List.Sorted.{IsPermutation}
use Rattle.eve_grammar.proofs.Lists.{whole_slice}
use Rattle.eve_votes.specs.Ballots.{ballots_of, HasVotes}
use Rattle.eve_votes.specs.declared.ballots.Ballot.{Ballot}
use Rattle.eve_votes.proofs.VoteOrder.{in_order}
use Rattle.eve_votes.proofs.AllVotes.{moved_each, moved_all, moved_once}
use Rattle.eve_votes.proofs.voting.cast.Goals as goal

pub returns : goal.returns
returns c =
    let t = c.args.trace.now in
    let xs = c.in_ok-ballots.ballots.items in
    let ys = c.sort_unstable.new.self in
    let many = c.sort_unstable.ensures.len in
    let value : length c.as_mut_slice.result.now ≡ length xs =
    ap (λ (zs : List Ballot). length zs) c.as_mut_slice.ensures.value in
    let len = c.as_mut_slice.ensures.len in
    let moved : IsPermutation (ballots_of t) ys = subst (λ (zs : List Ballot). IsPermutation zs ys)
    (c.as_mut_slice.ensures.value ∙ c.in_ok-ballots.ensures) c.sort_unstable.ensures.permutation in
    let all : HasVotes t ys = record {
      each = moved_each t ys moved;
      all = moved_all t ys moved;
      once = moved_once t ys moved;
      order = in_order ys (λ k d less. c.sort_unstable.ensures.sorted k d (omega arith) less);
    } in
    subst (HasVotes t) (sym (whole_slice xs ys c.in_ok-ballots.ballots.len (omega arith) (omega arith))) all
