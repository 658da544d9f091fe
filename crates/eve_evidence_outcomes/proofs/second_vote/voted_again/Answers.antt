use Rattle.std.proofs.Common.{inl, inr, arith}
use Rattle.std.proofs.lemmas.Bool.{cases_lt}
use Rattle.eve_evidence_outcomes.proofs.SecondVotes.{no_votes_there}
use Rattle.eve_evidence_outcomes.proofs.second_vote.voted_again.Goals as goal

pub unreachable-requires : goal.unreachable-requires
unreachable-requires c =
    let v = c.requires.0 in
    elim (cases_lt v c.loop-v.v) [
      | inl lt ↦ c.loop-v.invariant v lt c.requires.1
      | inr le ↦ no_votes_there c.args.trace.now v
          (omega (arith, c.loop-v-test.false, c.verifier_count-v-end.ensures)) _ c.requires.1
    ]
