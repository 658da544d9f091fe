-- What was said and the lines of the verifiers that are still to come are together all lines.
use Rattle.std.proofs.Common.{◌≡◌}
use Rattle.eve_reasons.specs.Polls.{vote_line}
use Rattle.eve_reasons.proofs.Items.{and_items}
use Rattle.eve_reasons.proofs.polls.say_poll.Given as goal

abbrev pub invariant-votes : goal.invariant-votes
invariant-votes l = and_items vote_line l.i l.votes l.lines ≡ and_items vote_line 0 l.votes l.initial.lines
