use Rattle.std.proofs.Common.{◌∙◌, refl}
use Rattle.std.proofs.lemmas.Option.{slice_get-get_or}
use Rattle.eve_reasons.specs.Polls.{vote_line}
use Rattle.eve_reasons.proofs.Items.{decoded_all, says_next}
use Rattle.eve_reasons.proofs.polls.say_poll.Goals as goal

pub votes-preserved : goal.votes-preserved
votes-preserved c =
    says_next vote_line _ _ _ _ _ (slice_get-get_or _ _ _ c.votes-test.true) c.say_vote.ensures ∙ c.votes.invariant

pub returns : goal.returns
returns c =
    decoded_all vote_line c.args.poll.now.votes _ _ _ _ _ c.min.ensures c.votes-test.false c.votes.invariant
    ∙ rw (c.say_found.ensures, c.say_asked.ensures) refl
