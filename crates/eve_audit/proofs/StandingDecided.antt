-- Whether a fault stands at an offset under a code can be decided.
use Rattle.std.proofs.Common.{◌≡◌, ◌≢◌, ℕ, zero, suc, ◌+◌, ◌-◌, ◌<◌, ◌≤◌, ◌⊎◌, inl, inr, List, [], ◌∷◌, length}
use Rattle.std.proofs.Common.{Option, Some, None, IfSome, refl, sym, ap, subst, ◌∙◌, arith}
use Rattle.std.specs.Prelude.{IsTrue, IsFalse, Contains, slice_index_or, Bool}
use Rattle.std.specs.List.{list_any}
use Rattle.std.proofs.lemmas.Bool.{cases_Bool, cases_lt, false≢true}
use Rattle.std.proofs.lemmas.List.{get_or_past}
use Rattle.std.proofs.lemmas.Option.{same_Some, slice_get_within}
use Rattle.eve_smallbank.specs.Access.{Executed, Fits}
use Rattle.eve_grammar.specs.Trace.{ForRollback, ForCommit, Vote, Access, Attempt, Commit, Rollback, Transfer, Step}
use Rattle.eve_grammar.specs.Trace.{Attempts, Commits, RollsBack, Transfers, Trace}
use Rattle.eve_grammar.specs.Accesses.{is_right_place}
use Rattle.eve_grammar.specs.Frames.{OfVote, OfVerifier}
use Rattle.eve_grammar.specs.Spelling.{frame_text, located, verifier_start, customers_at, batches_at, steps_at}
use Rattle.eve_grammar.specs.Spelling.{accesses_at, votes_at, sent_at}
use Rattle.eve_views.specs.Form.{SomePlace}
use Rattle.eve_views.specs.declared.fault.Code.{Code}
use Rattle.eve_views.specs.declared.fault.Code.TheVariants as code
use Rattle.eve_history.specs.Section.{Placed, HowReached, ByAttempt, ByTransfer, Skipped, SectionState, start}
use Rattle.eve_history.specs.Section.{state_after}
use Rattle.eve_history.specs.Section.{settled, is_right_attempt, is_right_certificate, is_right_access, is_right_commit}
use Rattle.eve_history.specs.Section.{is_right_rollback, is_right_transfer, are_right_accesses, are_right}
use Rattle.eve_history.specs.SectionHistory.{history, how_reached_at, attempt_by, committed_at, names_of}
use Rattle.eve_history.specs.Order.{request_ids_at, StandsInOrders}
use Rattle.eve_history.specs.Structure.{accesses_of, OfAttempt, OfCommit, OfRollback, OfTransfer, StandsInStructure}
use Rattle.eve_chains.specs.Visible.{executed_by, visible_to}
use Rattle.eve_chains.specs.Faults.{AtSettledAccess, StandsInRecords, StandsInChains}
use Rattle.eve_agree.specs.Tables.{are_right_restores}
use Rattle.eve_agree.specs.Restores.{StandsInRestores}
use Rattle.eve_agree.specs.DueTokens.{due_token, StandsInTokens}
use Rattle.eve_votes.specs.Votes.{is_vote_on, IsDecided, backers}
use Rattle.eve_votes.specs.Faults.{HasTwoDecisions, StandsInVotes, IsFurther}
use Rattle.eve_agree.specs.Majority.{StandsInMajorities}
use Rattle.eve_agree.specs.Agreement.{first_to_commit, HaveSameOutcome, HasBalancesOfFirst, StandsInAgreement}
use Rattle.eve_agree.specs.ByNumber.{SomeCommitted, SomeTransferred}
use Rattle.eve_agree.specs.SentReplies.{StandsInReplies}
use Rattle.eve_history.proofs.Places.{place_here, place_later, place_cases, no_place}
use Rattle.eve_audit.proofs.Decidability.{Decided, HasEquality, decided_both, decided_not, decided_as, some_if}
use Rattle.eve_audit.proofs.Decidability.{below_or_none, numbers, integers, lists, pairs}
use Rattle.eve_audit.proofs.DecidedVotes.{HaveVotes, enough, vote, AtVote, at_vote, IsFor, is_for, voted, some_decided}
use Rattle.eve_audit.proofs.NumberLaws.{none_there, told_reached_by}
use Rattle.eve_audit.proofs.TraceWithoutFaults.{same_outcome, balances_of_first, replied}

-- ---- tests, places and elements

decided_true : (b : Bool) → Decided (IsTrue b)
decided_true b = elim (cases_Bool b) [ inl t ↦ inl t | inr f ↦ inr (λ t. false≢true (sym f ∙ t)) ]

decided_false : (b : Bool) → Decided (IsFalse b)
decided_false b = elim (cases_Bool b) [ inl t ↦ inr (λ f. false≢true (sym f ∙ t)) | inr f ↦ inl f ]

decided_three : {P Q R : Type 0} → Decided P → Decided Q → Decided R → Decided (P × Q × R)
decided_three (inl p) (inl q) (inl r) = inl (p, q, r)
decided_three (inl p) (inl q) (inr n) = inr (λ all. n all.2)
decided_three (inl p) (inr n) r = inr (λ all. n all.1)
decided_three (inr n) q r = inr (λ all. n all.0)

place_decided : {A : Type 0} (P : List A → A → Type 0) → ((before : List A) (x : A) → Decided (P before x))
    → (xs : List A) → Decided (SomePlace xs P)
place_decided P decided [] = inr (no_place P)
place_decided {A = A} P decided (x ∷ xs) = elim (decided [] x) [
  | inl here ↦ inl (place_here P x xs here)
  | inr wrong ↦ elim (place_decided (λ b y. P (x ∷ b) y) (λ b y. decided (x ∷ b) y) xs) [
    | inl there ↦ inl (place_later P x xs there)
    | inr none ↦ inr (λ place. elim (place_cases P x xs place) [ inl here ↦ wrong here | inr there ↦ none there ])
  ]
]

contains_decided : {A : Type 0} → HasEquality A → (xs : List A) (x : A) → Decided (Contains xs x)
contains_decided equal xs x = below_or_none (λ k. slice_index_or xs k x ≡ x) (λ k. equal (slice_index_or xs k x) x)
    (length xs)

-- ---- kinds of steps, and ways in which numbers are reached

of_attempt : (step : Step) (P : Attempt → Type 0) → ((a : Attempt) → Decided (P a)) → Decided (OfAttempt step P)
of_attempt (Attempts a) P decided = decided a
of_attempt (Commits c) P decided = inr (λ is. is)
of_attempt (RollsBack r) P decided = inr (λ is. is)
of_attempt (Transfers x) P decided = inr (λ is. is)

of_commit : (step : Step) (P : Commit → Type 0) → ((c : Commit) → Decided (P c)) → Decided (OfCommit step P)
of_commit (Attempts a) P decided = inr (λ is. is)
of_commit (Commits c) P decided = decided c
of_commit (RollsBack r) P decided = inr (λ is. is)
of_commit (Transfers x) P decided = inr (λ is. is)

of_rollback : (step : Step) (P : Rollback → Type 0) → ((r : Rollback) → Decided (P r)) → Decided (OfRollback step P)
of_rollback (Attempts a) P decided = inr (λ is. is)
of_rollback (Commits c) P decided = inr (λ is. is)
of_rollback (RollsBack r) P decided = decided r
of_rollback (Transfers x) P decided = inr (λ is. is)

of_transfer : (step : Step) (P : Transfer → Type 0) → ((x : Transfer) → Decided (P x)) → Decided (OfTransfer step P)
of_transfer (Attempts a) P decided = inr (λ is. is)
of_transfer (Commits c) P decided = inr (λ is. is)
of_transfer (RollsBack r) P decided = inr (λ is. is)
of_transfer (Transfers x) P decided = decided x

-- ---- numbers that were reached

-- at some number that replica e reached or skipped
module _ (t : Trace) (e : ℕ) (P : ℕ → HowReached → Type 0) (decided : (n : ℕ) (l : HowReached) → Decided (P n l)) where
  AtNumber : ℕ → Type 0
  AtNumber n = (l : HowReached) × (how_reached_at t e n ≡ Some l) × P n l

  number_decided : (n : ℕ) → Decided (AtNumber n)
  unfolding AtNumber
  number_decided n = by (how_reached_at t e n) refl
    where
      by : (o : Option HowReached) → how_reached_at t e n ≡ o → Decided (AtNumber n)
      by None is = inr (λ found. none_there found.0 (sym is ∙ found.1))
      by (Some l) is =
          decided_as (λ holds. (l, is, holds))
          (λ found. subst (P n) (same_Some found.0 l (sym found.1 ∙ is)) found.2) (decided n l)

  number_low : (n : ℕ) (l : HowReached) → how_reached_at t e n ≡ Some l → n < suc (length (history t e).ways_reached)
  number_low zero l is = omega arith
  number_low (suc n) l is = (let low = slice_get_within (history t e).ways_reached n l is in omega (arith, low))

  some_number : Decided ((n : ℕ) × (l : HowReached) × (how_reached_at t e n ≡ Some l) × P n l)
  unfolding AtNumber
  some_number =
      decided_as (λ found. (found.0, found.2.0, found.2.1, found.2.2))
      (λ found. (found.0, number_low found.0 found.1 found.2, (found.1, found.2, found.3)))
      (below_or_none AtNumber number_decided (suc (length (history t e).ways_reached)))

-- what holds where a number was reached by an attempt, or by a state
abbrev IsBy : (Placed → Type 0) → HowReached → Type 0
IsBy P (ByAttempt p) = P p
IsBy P (ByTransfer at x) = ⊥
IsBy P Skipped = ⊥

abbrev IsByState : (ℕ → Transfer → Type 0) → HowReached → Type 0
IsByState P (ByAttempt p) = ⊥
IsByState P (ByTransfer at x) = P at x
IsByState P Skipped = ⊥

is_by : (P : Placed → Type 0) → ((p : Placed) → Decided (P p)) → (l : HowReached) → Decided (IsBy P l)
is_by P decided (ByAttempt p) = decided p
is_by P decided (ByTransfer at x) = inr (λ is. is)
is_by P decided Skipped = inr (λ is. is)

is_by_state : (P : ℕ → Transfer → Type 0) → ((at : ℕ) (x : Transfer) → Decided (P at x)) → (l : HowReached)
    → Decided (IsByState P l)
is_by_state P decided (ByAttempt p) = inr (λ is. is)
is_by_state P decided (ByTransfer at x) = decided at x
is_by_state P decided Skipped = inr (λ is. is)

-- ---- two decisions

module _ (t : Trace) where
  -- two votes for commits in two views, both of them decided
  Clash : ℕ → Vote → Vote → Type 0
  Clash n w x = (w.view ≢ x.view) × (IsFor t n w × IsFor t n x)

  clashes : (n : ℕ) → Decided (AtVote t (λ w. AtVote t (Clash n w)))
  unfolding Clash
  clashes n = at_vote t (λ w. AtVote t (Clash n w))
      (λ w. at_vote t (Clash n w)
      (λ x. decided_both (decided_not (numbers w.view x.view)) (decided_both (is_for t n w) (is_for t n x))))

  two_of : (n : ℕ) → AtVote t (λ w. AtVote t (Clash n w)) → HasTwoDecisions t n
  unfolding AtVote Clash IsFor
  two_of n found =
      let w = vote t found.0 found.2.0 in
      let also = found.2.2 in
      let x = vote t also.0 also.2.0 in
      let clash = also.2.2 in
      (w.view, x.view, clash.1.0.0, clash.1.1.0, clash.0, clash.1.0.2, clash.1.1.2)

  module _ (votes : HaveVotes t) where
    clash_of : (n : ℕ) → HasTwoDecisions t n → AtVote t (λ w. AtVote t (Clash n w))
    unfolding Clash IsFor
    clash_of n two =
        voted t votes (λ w. AtVote t (Clash n w)) n two.0 two.2 two.5 (λ w in_view commit.
        voted t votes (Clash n w) n two.1 two.3 two.6 (λ x in_other also. (
          (λ same. two.4 (sym in_view ∙ same ∙ in_other)),
          (
            (two.2, commit, subst (λ (v : ℕ). IsDecided t n v two.2) (sym in_view) two.5),
            (
              two.3,
              also,
              subst (λ (v : ℕ). IsDecided t n v two.3)
                  (sym in_other) two.6,
            ),
          ),
        )))

    two_decided : (n : ℕ) → Decided (HasTwoDecisions t n)
    two_decided n = decided_as (two_of n) (clash_of n) (clashes n)

-- ---- phase by phase

-- after the last verifier there are no votes
none_behind : (t : Trace) (v : ℕ) (P : List (ℕ × Vote) → ℕ × Vote → Type 0) → length t.verifiers ≤ v
    → SomePlace (votes_at t v) P → ⊥
unfolding votes_at
none_behind t v P past place =
    no_place P (subst (λ (ws : List Vote). SomePlace
    (located (λ w. frame_text (OfVote w)) (verifier_start t v + length (frame_text (OfVerifier v))) ws) P)
    (get_or_past t.verifiers v [] past) place)

module _ (t : Trace) (at : ℕ) where
  pub orders_decided : (c : Code) → Decided (StandsInOrders c t at)
  orders_decided code.SameName =
      place_decided _ (λ before c. decided_both (numbers c.0 at) (contains_decided (lists numbers) _ _))
      (customers_at t)
  orders_decided code.SameRequest =
      place_decided _ (λ before b. decided_both (numbers b.0 at)
      (place_decided _ (λ earlier own. contains_decided (pairs numbers numbers) _ _) (request_ids_at b)))
      (batches_at t)
  orders_decided c = inr (λ stands. absurd stands)

  pub votes_decided : HaveVotes t → (c : Code) → Decided (StandsInVotes c t at)
  votes_decided votes code.TwoVotes =
      decided_as (λ found. (found.0, found.2))
      (λ further. (further.0, there further.0 further.1 (cases_lt further.0 (length t.verifiers)), further.1))
      (below_or_none (λ v. SomePlace (votes_at t v) (λ before w. (w.0 ≡ at) × IsFurther before w))
      (λ v. place_decided _ (λ before w. decided_both (numbers w.0 at)
      (decided_true (list_any (λ u. is_vote_on w.1.seq w.1.view u.1) before))) (votes_at t v)) (length t.verifiers))
    where
      there : (v : ℕ) → SomePlace (votes_at t v) (λ before w. (w.0 ≡ at) × IsFurther before w)
          → (v < length t.verifiers) ⊎ (length t.verifiers ≤ v)
          → v < length t.verifiers
      there v further (inl lt) = lt
      there v further (inr le) = absurd (none_behind t v _ le further)
  votes_decided votes code.TwoDecisions =
      place_decided _ (λ _ b. decided_both (numbers b.0 at) (two_decided t votes b.1.0)) (batches_at t)
  votes_decided votes c = inr (λ stands. absurd stands)

  pub replies_decided : (c : Code) → Decided (StandsInReplies c t at)
  replies_decided code.Reply = place_decided _ (λ _ s. decided_both (numbers s.0 at) (decided_not (replied t s.1)))
      (sent_at t)
  replies_decided c = inr (λ stands. absurd stands)

  module _ (e : ℕ) where
    state : List (ℕ × Step) → SectionState
    state before = state_after start before

    pub structure_decided : (c : Code) → Decided (StandsInStructure c t e at)
    unfolding state
    structure_decided code.Attempt =
        place_decided _ (λ before step. decided_both (decided_true (are_right t start before))
        (decided_both (numbers step.0 at)
        (of_attempt step.1 _ (λ a. decided_false (is_right_attempt t (state before) a))))) (steps_at t e)
    structure_decided code.Certificate =
        place_decided _ (λ before step. decided_both (decided_true (are_right t start before))
        (decided_both (numbers step.0 at) (of_attempt step.1 _ (λ a. decided_false (is_right_certificate t a)))))
        (steps_at t e)
    structure_decided code.Access =
        place_decided _ (λ before step. decided_both (decided_true (are_right t start before))
        (of_attempt step.1 _ (λ a.
        decided_three (decided_true (is_right_attempt t (state before) a)) (decided_true (is_right_certificate t a))
        (place_decided _ (λ b x. decided_both (decided_true (are_right_accesses t a [] (accesses_of b)))
        (decided_both (numbers x.0 at) (decided_false (is_right_access t a (accesses_of b) x.1))))
        (accesses_at step.0 a))))) (steps_at t e)
    structure_decided code.WorkerOrder =
        place_decided _ (λ before step. decided_both (decided_true (are_right t start before))
        (of_attempt step.1 _ (λ a.
        decided_three (decided_true (is_right_attempt t (state before) a)) (decided_true (is_right_certificate t a))
        (place_decided _ (λ b x. decided_both (decided_true (are_right_accesses t a [] (accesses_of b)))
        (decided_both (numbers x.0 at) (decided_false (is_right_place (accesses_of b) x.1))))
        (accesses_at step.0 a))))) (steps_at t e)
    structure_decided code.Commit =
        place_decided _ (λ before step. decided_both (decided_true (are_right t start before))
        (decided_both (numbers step.0 at)
        (of_commit step.1 _ (λ c. decided_false (is_right_commit (state before) c))))) (steps_at t e)
    structure_decided code.Rollback =
        place_decided _ (λ before step. decided_both (decided_true (are_right t start before))
        (decided_both (numbers step.0 at)
        (of_rollback step.1 _ (λ r. decided_false (is_right_rollback t (state before) r))))) (steps_at t e)
    structure_decided code.Transfer =
        place_decided _ (λ before step. decided_both (decided_true (are_right t start before))
        (decided_both (numbers step.0 at)
        (of_transfer step.1 _ (λ x. decided_false (is_right_transfer t (state before) x))))) (steps_at t e)
    structure_decided c = inr (λ stands. absurd stands)

    settled_access : (P : Placed → Access → Type 0) → ((p : Placed) (x : Access) → Decided (P p x))
        → Decided (AtSettledAccess t e at P)
    settled_access P decided =
        place_decided _ (λ _ p. place_decided _ (λ _ x. decided_both (numbers x.0 at) (decided p x.1))
        (accesses_at p.offset p.attempt)) (settled (history t e))

    pub records_decided : ((names : List (List ℕ)) (x : Executed) → Decided (Fits names x)) → (c : Code)
        → Decided (StandsInRecords c t e at)
    records_decided fits code.Record = settled_access (λ p x. ¬ Fits (names_of t) (executed_by t p.attempt x))
        (λ p x. decided_not (fits (names_of t) (executed_by t p.attempt x)))
    records_decided fits c = inr (λ stands. absurd stands)

    pub chains_decided : (c : Code) → Decided (StandsInChains c t e at)
    chains_decided code.Version =
        settled_access (λ p x. SomePlace x.entries (λ _ y. y.version ≢ (visible_to t p x.index y.row).version))
        (λ p x. place_decided _ (λ _ y. decided_not (numbers y.version (visible_to t p x.index y.row).version))
        x.entries)
    chains_decided code.Value =
        settled_access (λ p x. SomePlace x.entries (λ _ y. y.seen ≢ (visible_to t p x.index y.row).value))
        (λ p x. place_decided _ (λ _ y. decided_not (integers y.seen (visible_to t p x.index y.row).value)) x.entries)
    chains_decided c = inr (λ stands. absurd stands)

    pub restores_decided : (c : Code) → Decided (StandsInRestores c t e at)
    restores_decided code.Restore =
        place_decided _ (λ before step. decided_both (numbers step.0 at)
        (of_rollback step.1 _ (λ r. decided_false (are_right_restores t (state_after start before) r.restores))))
        (steps_at t e)
    restores_decided c = inr (λ stands. absurd stands)

    committed_somewhere : (Q : ℕ → Placed → Type 0) → ((n : ℕ) (p : Placed) → Decided (Q n p))
        → Decided (SomeCommitted t e at Q)
    committed_somewhere Q decided =
        decided_as (λ found. from found.0 found.1 found.2 found.3)
        (λ some. (
          some.n,
          ByAttempt some.item,
          told_reached some.n some.item some.is,
          (some.offset, some.holds),
        ))
        (some_number t e (λ n. IsBy (λ p. (p.offset ≡ at) × Q n p))
        (λ n. is_by _ (λ p. decided_both (numbers p.offset at) (decided n p))))
      where
        from : (n : ℕ) (l : HowReached) → how_reached_at t e n ≡ Some l → IsBy (λ p. (p.offset ≡ at) × Q n p) l
            → SomeCommitted t e at Q
        from n (ByAttempt p) is holds =
            record { n = n; item = p; is = ap attempt_by is; offset = holds.0; holds = holds.1 }
        from n (ByTransfer place x) is holds = absurd holds
        from n Skipped is holds = absurd holds

        told_reached : (n : ℕ) (p : Placed) → committed_at t e n ≡ Some p → how_reached_at t e n ≡ Some (ByAttempt p)
        told_reached n p is = told_reached_by (how_reached_at t e n) p is

    transferred_somewhere : (Q : ℕ → Transfer → Type 0) → ((n : ℕ) (x : Transfer) → Decided (Q n x))
        → Decided (SomeTransferred t e at Q)
    transferred_somewhere Q decided =
        decided_as (λ found. from found.0 found.1 found.2 found.3)
        (λ some. (some.n, ByTransfer at some.state, some.is, (refl, some.holds)))
        (some_number t e (λ n. IsByState (λ place x. (place ≡ at) × Q n x))
        (λ n. is_by_state _ (λ place x. decided_both (numbers place at) (decided n x))))
      where
        from : (n : ℕ) (l : HowReached) → how_reached_at t e n ≡ Some l → IsByState (λ place x. (place ≡ at) × Q n x) l
            → SomeTransferred t e at Q
        from n (ByAttempt p) is holds = absurd holds
        from n (ByTransfer place x) is holds = record {
          n = n;
          state = x;
          is = is ∙ ap (λ (k : ℕ). Some (ByTransfer k x)) holds.0;
          holds = holds.1;
        }
        from n Skipped is holds = absurd holds

    pub tokens_decided : (c : Code) → Decided (StandsInTokens c t e at)
    tokens_decided code.Token =
        committed_somewhere (λ n p. p.attempt.token ≢ due_token t e p)
        (λ n p. decided_not (lists numbers p.attempt.token (due_token t e p)))
    tokens_decided c = inr (λ stands. absurd stands)

    pub majorities_decided : HaveVotes t → (c : Code) → Decided (StandsInMajorities c t e at)
    majorities_decided votes code.NoMajority =
        place_decided _ (λ _ step. decided_both (numbers step.0 at)
        (of_commit step.1 _ (λ c. decided_not (enough t.head.quorum (backers t c.seq c.view (ForCommit c.token))))))
        (steps_at t e)
    majorities_decided votes code.RollbackNoMajority =
        place_decided _ (λ _ step. decided_both (numbers step.0 at)
        (of_rollback step.1 _ (λ r. decided_not
        (enough t.head.quorum (backers t (r.to + 1) (r.view - 1) ForRollback)))))
        (steps_at t e)
    majorities_decided votes code.TransferNoMajority =
        place_decided _ (λ _ step. decided_both (numbers step.0 at)
        (of_transfer step.1 _ (λ x. decided_not (some_decided t votes x.seq x.view))))
        (steps_at t e)
    majorities_decided votes c = inr (λ stands. absurd stands)

    pub agreement_decided : (c : Code) → Decided (StandsInAgreement c t e at)
    agreement_decided code.Outcome =
        committed_somewhere (λ n p. IfSome (first_to_commit t n) (λ f. ¬ HaveSameOutcome t e f n))
        (λ n p. some_if _ (λ f. decided_not (same_outcome t e n f)) (first_to_commit t n))
    agreement_decided code.TransferBalances =
        transferred_somewhere (λ n x. ¬ HasBalancesOfFirst t n x) (λ n x. decided_not (balances_of_first t n x))
    agreement_decided c = inr (λ stands. absurd stands)
