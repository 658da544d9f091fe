-- Who counts for a choice on a batch in a view.
use Rattle.std.proofs.Common.{◌≡◌, ℕ, ◌+◌, ◌<◌, ◌≤◌, Bool, true, false, cond, List, [], ◌∷◌, length}
use Rattle.std.proofs.Common.{map}
use Rattle.std.proofs.Common.{filter, Some, max, refl, sym, ap, subst, ◌∙◌, inl}
use Rattle.std.proofs.Common.{inr, arith}
use Rattle.std.specs.Cmp.Lexicographic.{same_text}
use Rattle.std.proofs.lemmas.Bool.{cases_lt, false≢true}
use Rattle.eve_grammar.specs.Trace.{Choice, ForRollback, ForCommit, Vote, Trace}
use Rattle.eve_grammar.specs.Frames.{OfVerifier, OfVote}
use Rattle.eve_grammar.specs.Spelling.{frame_text, verifier_start, votes_at, votes_of}
use Rattle.eve_votes.specs.Votes.{same_choice, is_vote_on, is_only, backers}
use Rattle.eve_votes.proofs.Places.{located_values}
use Rattle.eve_votes.proofs.Backers.{counted}
use Rattle.eve_evidence.specs.declared.evidence.VerifierVote.{VerifierVote}
use Rattle.eve_evidence.specs.declared.evidence.VerifierVote.TheVariants.{For, Otherwise, NoVote}
use Rattle.eve_evidence_outcomes.specs.Polls.{votes_on, vote_told, chosen, only_commit, IsSomeCount, IsMost}

-- ---- a verifier's votes with their bytes, and without

abbrev pub plain : List (ℕ × Vote) → List Vote
plain ws = map (λ w. w.1) ws

plain_on : (n view : ℕ) (ws : List (ℕ × Vote)) → plain (votes_on n view ws) ≡ filter (is_vote_on n view) (plain ws)
plain_on n view [] = refl
plain_on n view (w ∷ ws) =
    by (is_vote_on n view w.1) (votes_on n view ws) (filter (is_vote_on n view) (plain ws)) (plain_on n view ws)
  where
    by : (b : Bool) (us : List (ℕ × Vote)) (vs : List Vote) → plain us ≡ vs
        → plain (cond b (w ∷ us) us) ≡ cond b (w.1 ∷ vs) vs
    by true us vs e = ap (λ (xs : List Vote). w.1 ∷ xs) e
    by false us vs e = e

module _ (t : Trace) (n view v : ℕ) where
  pub plain_votes : plain (votes_at t v) ≡ votes_of t v
  unfolding votes_at
  plain_votes = located_values (λ w. frame_text (OfVote w))
      (verifier_start t v + length (frame_text (OfVerifier v))) (votes_of t v)

  pub same_votes : plain (votes_on n view (votes_at t v)) ≡ filter (is_vote_on n view) (votes_of t v)
  same_votes = plain_on n view (votes_at t v) ∙ ap (filter (is_vote_on n view)) plain_votes

-- ---- for a choice

abbrev pub is_for : VerifierVote → Bool
is_for (For at) = true
is_for (Otherwise at) = false
is_for NoVote = false

only_told : (choice : Choice) (ws : List (ℕ × Vote)) → is_only choice (plain ws) ≡ is_for (vote_told choice ws)
only_told choice [] = refl
only_told choice (w ∷ []) = by (same_choice w.1.choice choice)
  where
    by : (b : Bool) → b ≡ is_for (cond b (For w.0) (Otherwise w.0))
    by true = refl
    by false = refl
only_told choice (w ∷ u ∷ ws) = refl

abbrev pub backs : ℕ → ℕ → Choice → List Vote → Bool
backs n view choice votes = is_only choice (filter (is_vote_on n view) votes)

backs_told : (t : Trace) (n view v : ℕ) (choice : Choice) → backs n view choice (votes_of t v)
    ≡ is_for (vote_told choice (votes_on n view (votes_at t v)))
backs_told t n view v choice =
    sym (ap (is_only choice) (same_votes t n view v)) ∙ only_told choice (votes_on n view (votes_at t v))

pub one_for : (t : Trace) (n view v : ℕ) (choice : Choice) (told : VerifierVote) (ws : List (ℕ × Vote)) (b : Bool)
    → ws ≡ votes_at t v → told ≡ vote_told choice (votes_on n view ws) → is_for told ≡ b
    → ◌≡◌ {A = ℕ} (cond b 1 0) (cond (backs n view choice (votes_of t v)) 1 0)
one_for t n view v choice told ws b same is found =
    ap {B = ℕ} (λ (k : Bool). cond k 1 0)
    (sym found ∙ ap is_for is ∙ ap (λ (xs : List (ℕ × Vote)). is_for (vote_told choice (votes_on n view xs))) same
    ∙ sym (backs_told t n view v choice))

-- ---- for a commit

same_commit : (c : Choice) (token : List ℕ) → same_choice c (ForCommit token) ≡ true → chosen c ≡ Some token
same_commit ForRollback token e = absurd cc
same_commit (ForCommit other) token e = ap Some (same_text other token (sym e))

only_is : (token : List ℕ) (ws : List (ℕ × Vote)) → is_only (ForCommit token) (plain ws) ≡ true
    → only_commit ws ≡ Some token
only_is token [] e = absurd (false≢true e)
only_is token (w ∷ []) e = same_commit w.1.choice token e
only_is token (w ∷ u ∷ ws) e = absurd (false≢true e)

pub reached_more : (t : Trace) (n view a b : ℕ) → IsSomeCount t n view a → IsSomeCount t n view b
    → IsSomeCount t n view (max a b)
reached_more t n view a b one two = elim (cases_lt a b) [
  | inl lt ↦ (let is : b ≡ max a b = omega arith in subst (IsSomeCount t n view) is two)
  | inr le ↦ (let is : a ≡ max a b = omega arith in subst (IsSomeCount t n view) is one)
]

-- the most of those up to verifier v
abbrev pub IsMostOf : Trace → ℕ → ℕ → ℕ → ℕ → Type 0
IsMostOf t n view v most =
    (u : ℕ) (token : List ℕ) → u < v → only_commit (votes_on n view (votes_at t u)) ≡ Some token
    → backers t n view (ForCommit token) ≤ most

pub most_more : (t : Trace) (n view v a b : ℕ) → IsMostOf t n view v a
    → ((token : List ℕ) → only_commit (votes_on n view (votes_at t v)) ≡ Some token
    → backers t n view (ForCommit token) ≤ b) → IsMostOf t n view (v + 1) (max a b)
most_more t n view v a b before own u token lt is = elim (cases_lt u v) [
  | inl less ↦ (let le = before u token less is in omega arith)
  | inr more ↦ (let same : u ≡ v = omega arith in
      let le = own token (subst (λ (k : ℕ). only_commit (votes_on n view (votes_at t k)) ≡ Some token) same is) in
      omega arith)
]

-- who is counted is there
pub backer_there : (t : Trace) (n view : ℕ) (token : List ℕ) → 0 < backers t n view (ForCommit token)
    → (u : ℕ) × (u < length t.verifiers) × (only_commit (votes_on n view (votes_at t u)) ≡ Some token)
backer_there t n view token some =
    let one = counted (backs n view (ForCommit token)) 1 t.verifiers (omega arith) (omega arith) in (
      one.place,
      omega (arith, one.early),
      only_is token (votes_on n view (votes_at t one.place))
          (ap (is_only (ForCommit token)) (same_votes t n view one.place) ∙ one.is []),
    )

pub most_is : (t : Trace) (n view v most : ℕ) → length t.verifiers ≤ v → IsSomeCount t n view most
    → IsMostOf t n view v most → IsMost t n view most
most_is t n view v most whole reached all = record {
  reached = elim reached [
    | inl none ↦ ([], (let le = each [] in omega arith))
    | inr some ↦ some
  ];
  all = each;
}
  where
    each : (token : List ℕ) → backers t n view (ForCommit token) ≤ most
    each token = elim (cases_lt 0 (backers t n view (ForCommit token))) [
      | inl some ↦ (let one = backer_there t n view token some in all one.0 token (omega (arith, one.1, whole)) one.2)
      | inr none ↦ omega arith
    ]
