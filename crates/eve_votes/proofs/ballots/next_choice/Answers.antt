use Rattle.std.proofs.Common.{get_or, sym, ap, ◌∙◌}
use Rattle.std.proofs.lemmas.Option.{slice_get-get_or, slice_get_within}
use Rattle.eve_grammar.specs.Spelling.{votes_of}
use Rattle.eve_frames.specs.Views.{vote_in}
use Rattle.eve_votes.specs.Votes.{same_choice}
use Rattle.eve_votes.specs.declared.ballots.Ballot.{Ballot}
use Rattle.eve_votes.proofs.DecisionLaws.{vote_got}
use Rattle.eve_votes.proofs.AllVotes.{verifier_there}
use Rattle.eve_votes.proofs.VoteOrder.{at, here, nowhere, start_hit, start_miss}
use Rattle.eve_votes.proofs.OnlyVotes.{backs_here, backs_nowhere}
use Rattle.eve_votes.proofs.ballots.next_choice.Goals as goal

abbrev none : Ballot
none = record { seq = 0; view = 0; verifier = 0; place = 0 }

pub returns-then-not-is_at-clause-start : goal.returns-then-not-is_at-clause-start
returns-then-not-is_at-clause-start c =
    let xs = c.args.ballots.now in
    let s = c.args.at.now in
    start_miss xs c.requires.cast.order s c.args.seq c.args.view c.args.verifier c.requires.start
    (nowhere xs s (at c.args.seq c.args.view c.args.verifier) (sym c.is_at.ensures ∙ c.if-not-is_at.true))

pub returns-then-not-is_at-clause-only : goal.returns-then-not-is_at-clause-only
returns-then-not-is_at-clause-only c choice =
    let xs = c.args.ballots.now in
    let s = c.args.at.now in
    backs_nowhere c.args.trace.now xs s c.args.seq c.args.view c.args.verifier choice c.requires.cast
    c.requires.start (nowhere xs s (at c.args.seq c.args.view c.args.verifier) (sym c.is_at.ensures ∙
    c.if-not-is_at.true))

pub vote_at-vote-requires-clause-verifier : goal.vote_at-vote-requires-clause-verifier
vote_at-vote-requires-clause-verifier c =
    let xs = c.args.ballots.now in
    let s = c.args.at.now in
    let there = (here xs s (at c.args.seq c.args.view c.args.verifier) (sym c.is_at.ensures ∙ c.if-not-is_at.false)).0
    in
    let b = get_or xs s none in
    let only = c.requires.cast.each s b (slice_get-get_or xs s none there) in
    verifier_there c.args.trace.now b.verifier b.place only.vote only.there

pub vote_at-vote-requires-clause-place : goal.vote_at-vote-requires-clause-place
vote_at-vote-requires-clause-place c =
    let xs = c.args.ballots.now in
    let s = c.args.at.now in
    let there = (here xs s (at c.args.seq c.args.view c.args.verifier) (sym c.is_at.ensures ∙ c.if-not-is_at.false)).0
    in
    let b = get_or xs s none in
    let only = c.requires.cast.each s b (slice_get-get_or xs s none there) in
    slice_get_within (votes_of c.args.trace.now b.verifier) b.place only.vote only.there

pub returns-clause-start : goal.returns-clause-start
returns-clause-start c =
    let xs = c.args.ballots.now in
    let s = c.args.at.now in
    let parts = here xs s (at c.args.seq c.args.view c.args.verifier) (sym c.is_at.ensures ∙ c.if-not-is_at.false) in
    start_hit xs c.requires.cast.order s c.args.seq c.args.view c.args.verifier c.requires.start (get_or xs s none)
    (slice_get-get_or xs s none parts.0) (parts.1 none)

pub returns-clause-only : goal.returns-clause-only
returns-clause-only c choice =
    let t = c.args.trace.now in
    let xs = c.args.ballots.now in
    let s = c.args.at.now in
    let parts = here xs s (at c.args.seq c.args.view c.args.verifier) (sym c.is_at.ensures ∙ c.if-not-is_at.false) in
    let b = get_or xs s none in
    let vote = vote_in c.vote_at-vote.result.bytes.now in
    backs_here t c.args.seq c.args.view c.args.verifier choice b vote
    (c.requires.cast.each s b (slice_get-get_or xs s none parts.0)) (parts.1 none)
    (vote_got t b.verifier b.place c.vote_at-vote.result.offset vote c.vote_at-vote.ensures)
    ∙ ap (λ x. same_choice x choice) (sym c.choice.ensures)
