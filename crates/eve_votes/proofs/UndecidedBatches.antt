-- The votes on a batch from some view on, and that what was looked at isn't decided.
use Rattle.std.proofs.Common.{◌≡◌, ◌≢◌, ℕ, ◌+◌, ◌-◌, ◌<◌, ◌≤◌, List, length, Some, sym, ap, subst, ◌∙◌, arith}
use Rattle.std.proofs.Common.{inl, inr}
use Rattle.std.specs.Prelude.{slice_get}
use Rattle.std.proofs.lemmas.Bool.{cases_lt}
use Rattle.std.proofs.lemmas.Option.{same_Some, slice_get_within}
use Rattle.eve_grammar.specs.Trace.{ForCommit, Trace}
use Rattle.eve_grammar.specs.Limits.{HasLimits}
use Rattle.eve_votes.specs.Votes.{IsDecided, backers}
use Rattle.eve_votes.specs.Ballots.{IsStart, Continues, HasCast}
use Rattle.eve_votes.specs.NextDecision.{IsTimelyDecision, IsNextDecision}
use Rattle.eve_votes.specs.declared.ballots.Ballot.{Ballot}
use Rattle.eve_votes.specs.declared.decided.Decided.{Decided}
use Rattle.eve_votes.proofs.VoteOrder.{fellow_is}
use Rattle.eve_votes.proofs.DecisionLaws.{quorum_limits, decided_among}

-- what the votes from the start up to this place are on isn't decided
abbrev pub AreUndecided : Trace → List Ballot → ℕ → ℕ → Type 0
AreUndecided t xs start i =
    (j : ℕ) (b : Ballot) → start ≤ j → j < i → slice_get xs j ≡ Some b → (token : List ℕ)
    → ¬ IsDecided t b.seq b.view token

-- nor is what the vote at this place is on
pub undecided_more : (t : Trace) (xs : List Ballot) (start i : ℕ) (b : Ballot) → slice_get xs i ≡ Some b
    → ((token : List ℕ) → ¬ IsDecided t b.seq b.view token) → AreUndecided t xs start i
    → AreUndecided t xs start (i + 1)
undecided_more t xs start i b got none before j c after less got_c token decided = elim (cases_lt j i) [
  | inl earlier ↦ before j c after earlier got_c token decided
  | inr late ↦
      let same : j ≡ i = omega arith in
      let equal : c ≡ b = same_Some c b (sym got_c ∙ ap (slice_get xs) same ∙ got) in
      none token (subst (λ (x : Ballot). IsDecided t x.seq x.view token) equal decided)
]

-- the votes are those on the batch from this view on
module _ (t : Trace) (xs : List Ballot) (cast : HasCast t xs) (start n from : ℕ) (first : IsStart xs start n from 0)
  where
    -- a vote on the batch in one of the views stands there
    no_earlier : (i : ℕ) (b : Ballot) → slice_get xs i ≡ Some b → b.seq ≡ n → from ≤ b.view → start ≤ i
    no_earlier i b got of_batch late = elim (cases_lt i start) [
      | inl less ↦ (
          let before = first.before i b less got in
          let seq = before.seq in
          let view = before.view (omega arith) in
          let verifier = before.verifier (omega arith) (omega arith) in
          absurd (omega arith))
      | inr ge ↦ ge
    ]

    -- a vote that stands there is on no earlier batch, and on this one in no earlier view
    pub late_view : (i : ℕ) (b : Ballot) → slice_get xs i ≡ Some b → start ≤ i → b.seq ≡ n → from ≤ b.view
    late_view i b got after of_batch = (first.behind i b after got).view (omega arith)

    -- it is on what the one before it is on
    pub undecided_on : (i : ℕ) (b : Ballot) → slice_get xs i ≡ Some b → start ≤ i → b.seq ≡ n → Continues xs i
        → AreUndecided t xs start i → AreUndecided t xs start (i + 1)
    undecided_on i b got after of_batch h before =
        let some = h.some in
        let equal : h.later ≡ b = same_Some h.later b (sym h.later_is ∙ got) in
        let both = fellow_is h.former h.later h.alike in
        let seq : h.former.seq ≡ b.seq = both.0 ∙ ap (λ (x : Ballot). x.seq) equal in
        let view : h.former.view ≡ b.view = both.1 ∙ ap (λ (x : Ballot). x.view) equal in
        let late = late_view i b got after of_batch in
        let there = no_earlier (i - 1) h.former h.former_is (seq ∙ of_batch) (omega arith) in
        undecided_more t xs start i b got
        (λ token decided. before (i - 1) h.former there (omega arith) h.former_is token
        (subst (λ (s : ℕ). IsDecided t s h.former.view token) (sym seq)
        (subst (λ (u : ℕ). IsDecided t b.seq u token) (sym view) decided)))
        before

    -- a vote on the batch in a view that is decided
    pub record IsVotedOn (view : ℕ) : Type 0 where
      pub place : ℕ
      pub vote : Ballot
      pub there : slice_get xs place ≡ Some vote
      pub after : start ≤ place
      pub seq : vote.seq ≡ n
      pub in_view : vote.view ≡ view

    pub decided_there : HasLimits t → (view : ℕ) (token : List ℕ) → from ≤ view → IsDecided t n view token
        → IsVotedOn view
    decided_there limits view token late decided =
        let most = (quorum_limits t limits).1 in
        let found = (decided_among t xs n view token cast (omega (arith, most)) decided).1 in
        let seq = found.3 in
        let in_view = found.4 in
        record {
          place = found.0;
          vote = found.1;
          there = found.2;
          after = no_earlier found.0 found.1 found.2 seq (omega arith);
          seq = seq;
          in_view = in_view;
        }

    pub not_before : (i view : ℕ) (token : List ℕ) → AreUndecided t xs start i → IsDecided t n view token
        → (h : IsVotedOn view) → i ≤ h.place
    not_before i view token before decided h = elim (cases_lt h.place i) [
      | inl less ↦ absurd (before h.place h.vote h.after less h.there token
          (subst (λ (s : ℕ). IsDecided t s h.vote.view token) (sym h.seq)
          (subst (λ (u : ℕ). IsDecided t n u token) (sym h.in_view) decided)))
      | inr ge ↦ ge
    ]

    -- the votes on the batch end here
    pub none_further : HasLimits t → (i : ℕ) (b : Ballot) → slice_get xs i ≡ Some b → start ≤ i → b.seq ≢ n
        → AreUndecided t xs start i → (view : ℕ) (token : List ℕ) → from ≤ view → ¬ IsDecided t n view token
    none_further limits i b got after other before view token late decided =
        let h = decided_there limits view token late decided in
        let ge = not_before i view token before decided h in
        let up = (first.behind i b after got).seq in
        let seq = h.seq in
        elim (cases_lt i h.place) [
          | inl less ↦ (let order = (cast.order i h.place b h.vote less got h.there).seq in other (omega arith))
          | inr le ↦ (
              let same : h.place ≡ i = omega arith in
              let equal : h.vote ≡ b = same_Some h.vote b (sym h.there ∙ ap (slice_get xs) same ∙ got) in
              other (sym (ap (λ (x : Ballot). x.seq) equal) ∙ seq))
        ]

    pub none_at_all : HasLimits t → (i : ℕ) → length xs ≤ i → AreUndecided t xs start i
        → (view : ℕ) (token : List ℕ) → from ≤ view → ¬ IsDecided t n view token
    none_at_all limits i past before view token late decided =
        let h = decided_there limits view token late decided in
        let ge = not_before i view token before decided h in
        let lt = slice_get_within xs h.place h.vote h.there in
        omega arith

    -- what is decided here is the least
    pub next_here : HasLimits t → (i : ℕ) (b : Ballot) (d : Decided) → slice_get xs i ≡ Some b → start ≤ i → b.seq ≡ n
        → d.view ≡ b.view → IsTimelyDecision t b.seq b.view d → AreUndecided t xs start i → IsNextDecision t n from d
    next_here limits i b d got after of_batch same is before = record {
      is = record {
        after = (let late = late_view i b got after of_batch in omega arith);
        decided = subst (λ (s : ℕ). IsDecided t s d.view d.token) of_batch is.decided;
        votes_are = subst (λ (s : ℕ). d.votes ≡ backers t s d.view (ForCommit d.token)) of_batch is.votes_are;
      };
      least = λ view token late decided. (
          let h = decided_there limits view token late decided in
          let ge = not_before i view token before decided h in
          let seq = h.seq in
          let in_view = h.in_view in
          elim (cases_lt i h.place) [
            | inl less ↦ (
                let up = (cast.order i h.place b h.vote less got h.there).view (omega arith) in
                omega arith)
            | inr le ↦ (
                let place : h.place ≡ i = omega arith in
                let equal : h.vote ≡ b = same_Some h.vote b (sym h.there ∙ ap (slice_get xs) place ∙ got) in
                let here : h.vote.view ≡ b.view = ap (λ (x : Ballot). x.view) equal in
                omega arith)
          ]);
    }
