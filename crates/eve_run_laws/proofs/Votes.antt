-- What the verifiers of a run voted: each once on a batch in a view, and all of them for each commit and rollback.
use Rattle.std.proofs.Common.{◌≡◌, ℕ, suc, ◌+◌, ◌-◌, ◌<◌, ◌≤◌, ◌==◌, Bool, true, false, cond, ◌⊎◌, inl, inr, List, []}
use Rattle.std.proofs.Common.{◌∷◌, ◌++◌, All, length, filter, count_by, get_or, refl, sym, ap, ◌∙◌, subst}
use Rattle.std.proofs.Common.{length-append, arith}
use Rattle.std.specs.Prelude.{⊤}
use Rattle.std.specs.List.{AllByRecursion}
use Rattle.std.specs.Cmp.Lexicographic.{pointwise, other_text}
use Rattle.std.proofs.lemmas.Bool.{cases_lt, eqb-true}
use Rattle.std.proofs.lemmas.List.{append-nil, get_or_at, get_or_past}
use Rattle.std.proofs.lemmas.List.Elements.{All-nil, recursion_from_All}
use Rattle.eve_grammar.specs.Trace.{Step, Attempts, Commits, RollsBack, Transfers, Transfer, Choice, ForRollback}
use Rattle.eve_grammar.specs.Trace.{ForCommit, Vote, Trace}
use Rattle.eve_grammar.specs.Spelling.{steps_of, votes_of}
use Rattle.eve_grammar.specs.Limits.{HasLimits}
use Rattle.eve_grammar.proofs.Lists.{all-get_or}
use Rattle.eve_views.proofs.Lists.{count-cons}
use Rattle.eve_votes.specs.Votes.{same_choice, is_vote_on, is_only, backers, IsDecided, IsRolledBack}
use Rattle.eve_votes.specs.Faults.{AreVotesSound}
use Rattle.eve_votes.proofs.Backers.{counted, Backs, backs}
use Rattle.eve_votes.proofs.DecisionLaws.{quorum_limits}
use Rattle.eve_history.proofs.RightSections.{none_at}
use Rattle.eve_agree.specs.Majority.{SomeDecided, IsBacked, AllAreBacked}
use Rattle.eve_workload.specs.declared.mixer.Mixer.{Mixer}
use Rattle.eve_workload.specs.Workload.{Workload}
use Rattle.eve_attempts.specs.Ledgers.{Opened}
use Rattle.eve_replica.specs.Sections.{RunPlan, reached_in, commit_vote, rollback_vote}
use Rattle.eve_replica.specs.Transfers.{IsTransferredFrom, IsRightlyTransferred}
use Rattle.eve_replica.specs.Run.{IsTraceOf, has_reached, run_plan}
use Rattle.eve_replica.proofs.TokenCounts.{counted_all}
use Rattle.eve_run_laws.proofs.VotesApart.{Rise, IsAlone, AreOneCommit, all_alone, one_at_most, commits_apart}
use Rattle.eve_run_laws.proofs.VotesAlong.{votes_rise, OfItsVote, each_on}
use Rattle.eve_run_laws.proofs.SectionSteps.{all_steps_at}
use Rattle.eve_run_laws.proofs.StatesTransferred.{rightly_transferred, source, source_there, source_steps}

-- ---- votes that rise

-- where none came later
all_own : (votes own later : List Vote) → votes ≡ own ++ later → later ≡ [] → votes ≡ own
all_own votes own later first none = first ∙ ap (λ (vs : List Vote). own ++ vs) none ∙ append-nil own

-- so do those of each verifier, since some section was led by all of them
all_rise : (w : Workload) (mixer : Mixer) (t : Trace) → IsTraceOf w mixer t → All (Rise 1 0) t.verifiers
all_rise w mixer t is v d below =
    let p : RunPlan = run_plan w mixer in
    let many = length w.batches in
    let one = counted (has_reached many) 1 t.sections (omega arith) (omega (arith, is.reached)) in
    let there : one.place < length t.sections = omega (arith, one.early) in
    let steps = get_or t.sections one.place [] in
    let whole = eqb-true (reached_in steps) many (one.is []) in
    let own = is.sections one.place [] there in
    let by = is.voted v d below one.place [] there in
    subst (Rise 1 0) (sym (all_own (get_or t.verifiers v d) by.own by.later by.first (by.none_later whole)))
    (votes_rise p steps by.own p.first own.last (All-nil (λ (o : Opened). o.view ≡ 0)) own.through by.led)

-- ---- two majorities

-- one that passes both tests
record PassesBoth {A : Type 0} (p q : A → Bool) (xs : List A) : Type 0 where
  place : ℕ
  there : place < length xs
  first : (d : A) → p (get_or xs place d) ≡ true
  second : (d : A) → q (get_or xs place d) ≡ true

-- two majorities have one in common
in_common : {A : Type 0} (p q : A → Bool) (xs : List A) → length xs < count_by p xs + count_by q xs → PassesBoth p q xs
in_common p q [] most = absurd (omega (arith, most))
in_common {A = A} p q (x ∷ xs) most = by (p x) (q x) refl refl (in_common p q xs)
  where
    later : PassesBoth p q xs → PassesBoth p q (x ∷ xs)
    later one = record {
      place = suc one.place;
      there = omega (arith, one.there);
      first = λ d. one.first d;
      second = λ d. one.second d;
    }

    still_most : (b c : Bool) → p x ≡ b → q x ≡ c → cond b 1 0 + cond c 1 0 ≤ 1
        → length xs < count_by p xs + count_by q xs
    still_most b c one other few =
        omega (
          arith,
          most,
          few,
          count-cons p x xs,
          count-cons q x xs,
          ap {B = ℕ} (λ b. cond b 1 0) one,
          ap {B = ℕ} (λ b. cond b 1 0) other,
        )

    by : (b c : Bool) → p x ≡ b → q x ≡ c → (length xs < count_by p xs + count_by q xs → PassesBoth p q xs)
        → PassesBoth p q (x ∷ xs)
    by true true one other rest =
        record { place = 0; there = omega arith; first = λ d. one; second = λ d. other }
    by true false one other rest = later (rest (still_most true false one other (omega arith)))
    by false true one other rest = later (rest (still_most false true one other (omega arith)))
    by false false one other rest = later (rest (still_most false false one other (omega arith)))

-- ---- sound votes

-- what one vote decides
one_vote : (P Q : Vote → Type 0) (n view other : ℕ) (token other_token : List ℕ) (v : Backs P n view token)
    (w : Backs Q n other other_token) → AreOneCommit v.vote w.vote → (view ≡ other) × (token ≡ other_token)
one_vote P Q n view other token other_token v w one =
    let same : v.vote ≡ w.vote = one token other_token v.commit w.commit (v.seq ∙ sym w.seq) in (
      sym v.in_view ∙ ap (λ (x : Vote). x.view) same ∙ w.in_view,
      one_token token other_token (sym v.commit ∙ ap (λ (x : Vote). x.choice) same ∙ w.commit),
    )
  where
    one_token : (a b : List ℕ) → ForCommit a ≡ ForCommit b → a ≡ b
    one_token a b is = cc

module _ (t : Trace) (limits : HasLimits t) (all : All (Rise 1 0) t.verifiers) where
  once : (v n view : ℕ) → length (filter (is_vote_on n view) (votes_of t v)) ≤ 1
  once v n view = by (cases_lt v (length t.verifiers))
    where
      by : (v < length t.verifiers) ⊎ (length t.verifiers ≤ v)
          → length (filter (is_vote_on n view) (votes_of t v)) ≤ 1
      by (inl below) = one_at_most n view 1 0 (votes_of t v) (all v [] below)
      by (inr beyond) = subst (λ (vs : List Vote). length (filter (is_vote_on n view) vs) ≤ 1)
          (sym (get_or_past t.verifiers v [] beyond)) (omega arith)

  one_decision : (n view other : ℕ) (token other_token : List ℕ) → IsDecided t n view token
      → IsDecided t n other other_token → (view ≡ other) × (token ≡ other_token)
  one_decision n view other token other_token decided also =
      let p : List Vote → Bool = λ votes. is_only (ForCommit token) (filter (is_vote_on n view) votes) in
      let q : List Vote → Bool = λ votes. is_only (ForCommit other_token) (filter (is_vote_on n other) votes) in
      let most = (quorum_limits t limits).1 in
      let one = in_common p q t.verifiers (omega (arith, decided, also, most)) in
      let votes = get_or t.verifiers one.place [] in
      let v = backs (λ v. All (AreOneCommit v) votes) n view token votes
      (recursion_from_All (λ v. All (AreOneCommit v) votes) votes
      (commits_apart 1 0 votes (all one.place [] one.there))) (one.first []) in
      let w = backs (AreOneCommit v.vote) n other other_token votes
      (recursion_from_All (AreOneCommit v.vote) votes v.holds) (one.second []) in
      one_vote (λ v. All (AreOneCommit v) votes) (AreOneCommit v.vote) n view other token other_token v w w.holds

  sound : AreVotesSound t
  sound = record {
    once = once;
    one_view = λ n view other token other_token decided also.
        (one_decision n view other token other_token decided also).0;
    one_token = λ n view other token other_token decided also.
        (one_decision n view other token other_token decided also).1;
  }

pub votes_sound : (w : Workload) (mixer : Mixer) (t : Trace) → IsTraceOf w mixer t → HasLimits t → AreVotesSound t
votes_sound w mixer t is limits = sound t limits (all_rise w mixer t is)

-- ---- backed steps

same_self : (c : Choice) → same_choice c c ≡ true
same_self ForRollback = refl
same_self (ForCommit token) = by (pointwise ◌==◌ token token) refl
  where
    by : (b : Bool) → pointwise ◌==◌ token token ≡ b → pointwise ◌==◌ token token ≡ true
    by true is = is
    by false is = absurd (other_text token token (sym is) refl)

-- a commit or a rollback has the votes of a majority
abbrev HasVotes : Trace → Step → Type 0
HasVotes t (Attempts a) = ⊤
HasVotes t (Commits c) = IsDecided t c.seq c.view c.token
HasVotes t (RollsBack r) = IsRolledBack t (r.to + 1) (r.view - 1)
HasVotes t (Transfers x) = ⊤

module _ (t : Trace) (limits : HasLimits t) where
  -- what is each verifier's only vote on its batch in its view has all verifiers for it
  all_for : (w : Vote) → All (λ votes. IsAlone votes w) t.verifiers → t.head.quorum ≤ backers t w.seq w.view w.choice
  all_for w alone =
      let for_it : List Vote → Bool = λ votes. is_only w.choice (filter (is_vote_on w.seq w.view) votes) in
      let all = counted_all for_it t.verifiers
      (λ v d below. ap (is_only w.choice) (alone v d below) ∙ same_self w.choice) in
      let quorum = quorum_limits t limits in
      omega (arith, all, quorum.0)

  has_votes : (x : Step) → All (λ votes. OfItsVote (IsAlone votes) x) t.verifiers → HasVotes t x
  has_votes (Attempts a) alone = tt
  has_votes (Commits c) alone = all_for (commit_vote c.seq c.view c.token) alone
  has_votes (RollsBack r) alone = all_for (rollback_vote (r.to + 1) (r.view - 1)) alone
  has_votes (Transfers x) alone = tt

  module _ (w : Workload) (mixer : Mixer) (is : IsTraceOf w mixer t) where
    abbrev p : RunPlan
    p = run_plan w mixer

    alone_on : (e v : ℕ) (d : List Vote) → e < length t.sections → v < length t.verifiers
        → AllByRecursion (OfItsVote (IsAlone (get_or t.verifiers v d))) (steps_of t e)
    alone_on e v d there below =
        let votes = get_or t.verifiers v d in
        let by = is.voted v d below e [] there in
        each_on (IsAlone votes) (steps_of t e) by.own by.later by.led
        (subst (AllByRecursion (IsAlone votes)) by.first
        (recursion_from_All (IsAlone votes) votes (all_alone 1 0 votes (all_rise w mixer t is v d below))))

    all_have_votes : (e : ℕ) → e < length t.sections → All (HasVotes t) (steps_of t e)
    all_have_votes e there k x below =
        has_votes (get_or (steps_of t e) k x)
        (λ v d lt. all-get_or (OfItsVote (IsAlone (get_or t.verifiers v d))) (steps_of t e) k x
        (alone_on e v d there lt) below)

    -- a state was taken from a replica whose commit is decided
    state_decided : (x : Transfer) → IsTransferredFrom p t.sections x → SomeDecided t x.seq x.view
    state_decided x from =
        let f = source p t x from in
        let steps = source_steps p t x from in
        let own : Step = Commits from.commit in
        let long = ap length steps in
        let more = length-append from.prefix (own ∷ from.rest) in
        let votes : HasVotes t own =
        subst (HasVotes t)
        (ap (λ (ss : List Step). get_or ss (length from.prefix) own) steps
        ∙ get_or_at from.prefix own from.rest own (length from.prefix) refl)
        (all_have_votes f (source_there p t x from) (length from.prefix) own (omega (arith, long, more))) in (
          from.commit.token,
          subst (λ (n : ℕ). IsDecided t n x.view from.commit.token) from.seq
              (subst (λ (view : ℕ). IsDecided t from.commit.seq view from.commit.token) from.view votes),
        )

    backed : (x : Step) → HasVotes t x → IsRightlyTransferred p t.sections x → IsBacked t x
    backed (Attempts a) votes transferred = tt
    backed (Commits c) votes transferred = votes
    backed (RollsBack r) votes transferred = votes
    backed (Transfers x) votes transferred = state_decided x transferred

    steps_backed : (e : ℕ) → e < length t.sections → AllByRecursion (IsBacked t) (steps_of t e)
    steps_backed e there = recursion_from_All (IsBacked t) (steps_of t e)
        (λ k x below. backed (get_or (steps_of t e) k x) (all_have_votes e there k x below)
        (all-get_or (IsRightlyTransferred p t.sections) (steps_of t e) k x (rightly_transferred p t is.transferred e)
        below))

pub all_backed : (w : Workload) (mixer : Mixer) (t : Trace) → IsTraceOf w mixer t → HasLimits t → AllAreBacked t
all_backed w mixer t is limits e = elim (cases_lt e (length t.sections)) [
  | inl there ↦ all_steps_at (IsBacked t) t e (steps_backed t limits w mixer is e there)
  | inr beyond ↦ subst (AllByRecursion (λ x. IsBacked t x.1)) (sym (none_at t e beyond)) tt
]
