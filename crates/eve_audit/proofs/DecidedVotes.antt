-- What verifiers decided can be decided: a decided commit has a vote for it.
use Rattle.std.proofs.Common.{◌≡◌, ℕ, ◌<◌, ◌≤◌, inl, inr, List, length, get_or, refl, sym, subst, ◌∙◌, arith}
use Rattle.std.proofs.lemmas.Bool.{cases_lt}
use Rattle.std.proofs.lemmas.Option.{slice_get_within, get_or_from_slice_get}
use Rattle.eve_grammar.specs.Trace.{Choice, ForRollback, ForCommit, Vote, Trace}
use Rattle.eve_grammar.specs.Spelling.{votes_of}
use Rattle.eve_votes.specs.Votes.{IsDecided, backers}
use Rattle.eve_votes.specs.inner.VotedFor.{IsVotedFor}
use Rattle.eve_agree.specs.Majority.{SomeDecided}
use Rattle.eve_audit.proofs.Decidability.{Decided, decided_both, decided_as, below_or_none, numbers}

-- each commit that is decided has a vote for it
abbrev pub HaveVotes : Trace → Type 0
HaveVotes t = (n view : ℕ) (token : List ℕ) → IsDecided t n view token → IsVotedFor t n view token

pub enough : (quorum votes : ℕ) → Decided (quorum ≤ votes)
enough quorum votes = elim (cases_lt votes quorum) [
  | inl few ↦ inr (λ le. absurd (omega (arith, few, le)))
  | inr le
      ↦ inl le
]

-- ---- votes

no_vote : Vote
no_vote = record { seq = 0; view = 0; choice = ForRollback }

module _ (t : Trace) where
  pub vote : ℕ → ℕ → Vote
  vote v i = get_or (votes_of t v) i no_vote

  -- at some place among the votes
  unfoldable pub AtVote : (Vote → Type 0) → Type 0
  AtVote P = (v : ℕ) × (v < length t.verifiers) × ((i : ℕ) × (i < length (votes_of t v)) × P (vote v i))

  pub at_vote : (P : Vote → Type 0) → ((w : Vote) → Decided (P w)) → Decided (AtVote P)
  unfolding AtVote
  at_vote P decided =
      below_or_none (λ v. (i : ℕ) × (i < length (votes_of t v)) × P (vote v i))
      (λ v. below_or_none (λ i. P (vote v i)) (λ i. decided (vote v i)) (length (votes_of t v)))
      (length t.verifiers)

  -- a vote for a commit that is decided
  unfoldable pub IsFor : ℕ → Vote → Type 0
  IsFor n w = (token : List ℕ) × (w.choice ≡ ForCommit token) × IsDecided t n w.view token

  pub is_for : (n : ℕ) (w : Vote) → Decided (IsFor n w)
  unfolding IsFor
  is_for n w = by w.choice refl
    where
      other : (token : List ℕ) → ◌≡◌ {A = Choice} ForRollback (ForCommit token) → ⊥
      other token e = cc

      same : (a b : List ℕ) → ForCommit a ≡ ForCommit b → a ≡ b
      same a b e = cc

      by : (c : Choice) → w.choice ≡ c
          → Decided ((token : List ℕ) × (w.choice ≡ ForCommit token) × IsDecided t n w.view token)
      by ForRollback is = inr (λ found. other found.0 (sym is ∙ found.1))
      by (ForCommit token) is =
          decided_as (λ decided. (token, is, decided))
          (λ found. subst (λ (b : List ℕ). IsDecided t n w.view b) (same found.0 token (sym found.1 ∙ is)) found.2)
          (enough t.head.quorum (backers t n w.view (ForCommit token)))

  pub voted : HaveVotes t → (P : Vote → Type 0) (n view : ℕ) (token : List ℕ) → IsDecided t n view token
      → ((w : Vote) → w.view ≡ view → w.choice ≡ ForCommit token → P w) → AtVote P
  unfolding AtVote vote
  voted votes P n view token decided holds =
      let cast = votes n view token decided in (
        cast.verifier,
        cast.verifies,
        (
          cast.place,
          slice_get_within (votes_of t cast.verifier) cast.place cast.vote cast.there,
          subst P (sym (get_or_from_slice_get (votes_of t cast.verifier) cast.place cast.vote no_vote cast.there))
              (holds cast.vote cast.in_view cast.commit),
        ),
      )

  -- whether some commit of a number is decided in a view
  pub some_decided : HaveVotes t → (n view : ℕ) → Decided (SomeDecided t n view)
  unfolding IsFor AtVote
  some_decided votes n view =
      decided_as from to
      (at_vote (λ w. (w.view ≡ view) × IsFor n w) (λ w. decided_both (numbers w.view view) (is_for n w)))
    where
      from : AtVote (λ w. (w.view ≡ view) × IsFor n w) → SomeDecided t n view
      from found =
          let backed = found.2.2.1 in
          (backed.0, subst (λ (v : ℕ). IsDecided t n v backed.0) found.2.2.0 backed.2)

      to : SomeDecided t n view → AtVote (λ w. (w.view ≡ view) × IsFor n w)
      to some = voted votes (λ w. (w.view ≡ view) × IsFor n w) n view some.0 some.1 (λ w in_view commit. (
        in_view,
        (some.0, commit, subst (λ (v : ℕ). IsDecided t n v some.0) (sym in_view) some.1),
      ))
