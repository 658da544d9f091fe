-- Where no fault of votes stands, the votes are sound. A commit that is decided has a vote for it.
use Rattle.std.proofs.Common.{◌≡◌, ℕ, ◌-◌, ◌<◌, ◌≤◌, inl, inr, List, length, Some, slice_get, refl, sym, subst}
use Rattle.std.proofs.Common.{◌∙◌, arith}
use Rattle.std.proofs.lemmas.Bool.{cases_eq}
use Rattle.std.proofs.lemmas.List.FromFn.{length-enumerate_from}
use Rattle.std.proofs.lemmas.Option.{slice_get-get_or}
use Rattle.eve_grammar.specs.Trace.{Vote, Trace}
use Rattle.eve_grammar.specs.Frames.{batches_of}
use Rattle.eve_grammar.specs.Spelling.{batches_at, batches_start, batch_text, votes_of}
use Rattle.eve_grammar.specs.Limits.{HasLimits}
use Rattle.eve_grammar.proofs.Lists.{item_within}
use Rattle.eve_views.specs.Form.{HasNone, IsFaultOutside}
use Rattle.eve_views.specs.declared.fault.Code.TheVariants as code
use Rattle.eve_views.proofs.FrameOffsets.{length-located}
use Rattle.eve_votes.specs.Votes.{IsDecided}
use Rattle.eve_votes.specs.Faults.{HasTwoDecisions, outside, AreVotesSound, StandsInVotes}
use Rattle.eve_votes.specs.inner.VotedFor.{IsVotedFor}
use Rattle.eve_votes.proofs.Backers.{decided_backs, one_token}
use Rattle.eve_votes.proofs.DecisionLaws.{quorum_limits, decided_within, decisions_stand}
use Rattle.eve_votes.proofs.TallyLaws.{votes_once}

-- ---- faults

batch_count : (t : Trace) → length (batches_at t) ≡ length t.batches
unfolding batches_at
batch_count t = length-located batch_text (batches_start t) (batches_of t) ∙ length-enumerate_from 1 t.batches

module _ (t : Trace) (limits : HasLimits t) where
  module _ (none : HasNone (IsFaultOutside StandsInVotes t)) where
    one_view : (n view other : ℕ) (token other_token : List ℕ) → IsDecided t n view token
        → IsDecided t n other other_token → view ≡ other
    one_view n view other token other_token decided also = elim (cases_eq view other) [
      | inl same ↦ same
      | inr apart ↦
          let within = decided_within t limits n view token decided in
          let there : n - 1 < length (batches_at t) = omega (arith, within.low, within.high, batch_count t) in
          let b = item_within (batches_at t) (n - 1) there in
          let two : HasTwoDecisions t n = (view, other, token, other_token, apart, decided, also) in
          absurd (none (outside code.TwoDecisions b.0.0)
          (record { stands = decisions_stand t n b.0.0 b.0.1 within.low b.1 two; outside = refl }))
    ]

    pub sound_votes : AreVotesSound t
    sound_votes = record {
      once = votes_once t (λ at stands. none (outside code.TwoVotes at) (record { stands = stands; outside = refl }));
      one_view = one_view;
      one_token = λ n view other token other_token decided also.
          one_token t n view token other_token (quorum_limits t limits).1 decided
          (subst (λ (v : ℕ). IsDecided t n v other_token) (sym (one_view n view other token other_token decided also))
          also);
    }

  -- ---- decided commits

  -- where a vote is cast
  abbrev IsCast : Vote → Type 0
  IsCast w = (v : ℕ) × (v < length t.verifiers) × ((place : ℕ) × (slice_get (votes_of t v) place ≡ Some w))

  pub voted_for : (n view : ℕ) (token : List ℕ) → IsDecided t n view token → IsVotedFor t n view token
  voted_for n view token decided =
      let quorum = quorum_limits t limits in
      let some : 1 ≤ t.head.quorum = omega (arith, quorum.1) in
      let back = decided_backs t IsCast n view token some
      (λ v early k d lt. (v, omega (arith, some, early), (k, slice_get-get_or (votes_of t v) k d lt))) decided in
      record {
        verifier = back.holds.0;
        place = back.holds.2.0;
        vote = back.vote;
        verifies = back.holds.1;
        there = back.holds.2.1;
        seq = back.seq;
        in_view = back.in_view;
        commit = back.commit;
      }
