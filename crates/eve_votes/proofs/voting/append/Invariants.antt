use Rattle.std.proofs.Common.{◌≡◌, ◌++◌, take}
use Rattle.eve_grammar.specs.Spelling.{votes_of}
use Rattle.eve_votes.specs.Ballots.{ballots_from}
use Rattle.eve_votes.proofs.voting.append.Given as goal

abbrev pub invariant-loop-place : goal.invariant-loop-place
invariant-loop-place l = l.ballots.items ≡ l.fn.ballots.items ++ ballots_from l.verifier 0
    (take l.place (votes_of l.trace l.verifier))
