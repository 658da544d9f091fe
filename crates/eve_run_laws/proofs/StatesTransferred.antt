-- What the replicas of a run get by a transfer is what the first that committed the batch by an attempt had committed
-- then.
use Rattle.std.proofs.Common.{◌≡◌, ℕ, ℤ, zero, suc, ◌+◌, ◌*◌, ◌<◌, ◌≤◌, Bool, true, false, cond, ◌||◌, List, []}
use Rattle.std.proofs.Common.{◌∷◌, ◌++◌, All, map, take, find, length, get_or, slice_get, Option, Some, None, refl, sym}
use Rattle.std.proofs.Common.{subst, ap, ◌∙◌, inl, inr, append_assoc, length-append, arith}
use Rattle.std.specs.Prelude.{⊤, IsFalse}
use Rattle.std.specs.List.{AllByRecursion, flat_map, enumerate_from}
use Rattle.std.specs.Option.{is_some}
use Rattle.std.proofs.lemmas.Bool.{cases_lt, eq-eqb, false≢true}
use Rattle.std.proofs.lemmas.List.{get_or_at, get_or_append_left, get_or_past, length-map, take_at}
use Rattle.std.proofs.lemmas.List.Sums.{fold-append}
use Rattle.eve_smallbank.specs.Access.{balance_of_row}
use Rattle.eve_smallbank.specs.Chain.{Table, values_of}
use Rattle.eve_smallbank.proofs.Members.{all_from_in}
use Rattle.eve_grammar.specs.Trace.{Commit, Transfer, Step, Attempts, Commits, RollsBack, Transfers, Trace}
use Rattle.eve_grammar.specs.Spelling.{steps_of}
use Rattle.eve_grammar.proofs.Lists.{all-get_or, all-weaker, item_within, no_item}
use Rattle.eve_votes.proofs.Places.{get_between}
use Rattle.eve_history.specs.Section.{Placed, HowReached, ByAttempt, ByTransfer, Skipped, came_by, SectionState, start}
use Rattle.eve_history.specs.Section.{next, committing, state_after}
use Rattle.eve_history.specs.SectionHistory.{history, how_reached_at, attempt_by, committed_at}
use Rattle.eve_chains.specs.Visible.{rows_after}
use Rattle.eve_chains.specs.Committed.{attempts_of, path_to, first_rows, balances_to}
use Rattle.eve_agree.specs.Agreement.{HasBalancesOfFirst}
use Rattle.eve_agree.proofs.TokensInOrder.{rows_are}
use Rattle.eve_attempts.specs.Ledgers.{Ledger, table_of_rows}
use Rattle.eve_attempts.specs.CommitsAndRollbacks as ledgers
use Rattle.eve_attempts.specs.Transfers.{rows_of_state}
use Rattle.eve_replica.specs.Sections.{RunPlan, MakesOf, GoesThrough}
use Rattle.eve_replica.specs.Transfers.{is_commit_of, commits_batch, IsTransferredFrom, IsRightlyTransferred}
use Rattle.eve_replica.specs.Transfers.{AreTransferredIn}
use Rattle.eve_replica.specs.Run.{IsSectionOf}
use Rattle.eve_audit.proofs.NumberLaws.{none_there, first_committed}
use Rattle.eve_run_laws.proofs.LedgersAlike.{IsPlanOf, AreAlike, opened_of}
use Rattle.eve_run_laws.proofs.RightSteps.{alike_first, step_alike}
use Rattle.eve_run_laws.proofs.SectionSteps.{along, alike_after, IsCut, steps_cut}
use Rattle.eve_run_laws.proofs.AllReached.{AreReachedBy, reached_first, reached_next, all_reached, reached_stays}

-- ---- which states

-- each state that is transferred to a section, past the last replica too
pub rightly_transferred : (p : RunPlan) (t : Trace) → AreTransferredIn p t.sections → (e : ℕ)
    → AllByRecursion (IsRightlyTransferred p t.sections) (steps_of t e)
rightly_transferred p t transferred e = elim (cases_lt e (length t.sections)) [
  | inl there ↦ all-get_or (AllByRecursion (IsRightlyTransferred p t.sections)) t.sections e [] transferred there
  | inr beyond ↦
      subst (AllByRecursion (IsRightlyTransferred p t.sections)) (sym (get_or_past t.sections e [] beyond)) tt
]

-- ---- the section that it is taken from

module _ (p : RunPlan) (t : Trace) (x : Transfer) (from : IsTransferredFrom p t.sections x) where
  abbrev pub source : ℕ
  source = length from.below

  abbrev its_steps : List Step
  its_steps = from.prefix ++ Commits from.commit ∷ from.rest

  pub source_there : source < length t.sections
  source_there =
      let many = ap length from.source in
      let more = length-append from.below (its_steps ∷ from.above) in
      omega (arith, many, more)

  pub source_steps : steps_of t source ≡ its_steps
  source_steps = ap (λ (sections : List (List Step)). get_or sections source []) from.source
      ∙ get_or_at from.below its_steps from.above [] source refl

-- ---- commits

-- where a step is a commit, this holds of its number
abbrev IfCommits : (ℕ → Type 0) → Step → Type 0
IfCommits P (Attempts a) = ⊤
IfCommits P (Commits c) = P c.seq
IfCommits P (RollsBack r) = ⊤
IfCommits P (Transfers x) = ⊤

more_commits : (P Q : ℕ → Type 0) → ((n : ℕ) → P n → Q n) → (x : Step) → IfCommits P x → IfCommits Q x
more_commits P Q weaker (Attempts a) holds = tt
more_commits P Q weaker (Commits c) holds = weaker c.seq holds
more_commits P Q weaker (RollsBack r) holds = tt
more_commits P Q weaker (Transfers x) holds = tt

commits_own : (x : Step) (steps : List Step) → IfCommits (λ n. commits_batch n (x ∷ steps) ≡ true) x
commits_own (Attempts a) steps = tt
commits_own (Commits c) steps = ap (λ (b : Bool). b || commits_batch c.seq steps) (eq-eqb c.seq c.seq refl)
commits_own (RollsBack r) steps = tt
commits_own (Transfers x) steps = tt

-- a list of steps commits each batch that a step of it commits
all_commit : (steps : List Step) → AllByRecursion (IfCommits (λ n. commits_batch n steps ≡ true)) steps
all_commit [] = tt
all_commit (x ∷ steps) = (
  commits_own x steps,
  all-weaker (IfCommits (λ n. commits_batch n steps ≡ true)) (IfCommits (λ n. commits_batch n (x ∷ steps) ≡ true)) steps
      (more_commits (λ n. commits_batch n steps ≡ true) (λ n. commits_batch n (x ∷ steps) ≡ true)
      (λ n there. or_later (is_commit_of n x) (commits_batch n steps) there))
      (all_commit steps),
)
  where
    or_later : (b c : Bool) → c ≡ true → (b || c) ≡ true
    or_later true c there = refl
    or_later false c there = there

-- ---- the first that passes

first_found : {A : Type 0} (test : ℕ → Bool) (k : ℕ) (xs : List A) (f : ℕ) → f < length xs
    → ((i : ℕ) → i < f → test (k + i) ≡ false) → test (k + f) ≡ true
    → find test (map (λ s. s.0) (enumerate_from k xs)) ≡ Some (k + f)
first_found test k [] f there below own = absurd (omega (arith, there))
first_found test k (x ∷ xs) zero there below own =
    let here : k + 0 ≡ k = omega arith in
    ap (λ (b : Bool). cond b (Some k) (find test (map (λ s. s.0) (enumerate_from (k + 1) xs))))
    (ap test (sym here) ∙ own)
    ∙ ap Some (sym here)
first_found test k (x ∷ xs) (suc f) there below own =
    let here : k + 0 ≡ k = omega arith in
    let same : k + 1 + f ≡ k + suc f = omega arith in
    ap (λ (b : Bool). cond b (Some k) (find test (map (λ s. s.0) (enumerate_from (k + 1) xs))))
    (ap test (sym here) ∙ below 0 (omega arith))
    ∙ first_found test (k + 1) xs f (omega (arith, there))
    (λ i less. let up : k + 1 + i ≡ k + suc i = omega arith in ap test up ∙ below (suc i) (omega (arith, less)))
    (ap test same ∙ own)
    ∙ ap Some same

-- ---- what the first had

-- After this number replica e has the balances that another replica has, which committed the batch.
pub record IsLike (t : Trace) (e n : ℕ) : Type 0 where
  pub replica : ℕ
  pub attempt : Placed
  pub committed : committed_at t replica n ≡ Some attempt
  pub balances : balances_to t e n ≡ balances_to t replica n

-- up to its last step
goes_split : (p : RunPlan) (prefix : List Step) (x : Step) (old new : Ledger)
    → GoesThrough p (prefix ++ x ∷ []) old new → (mid : Ledger) × GoesThrough p prefix old mid × MakesOf p x mid new
goes_split p [] x old new way = (old, refl, subst (MakesOf p x old) way.2 way.1)
goes_split p (y ∷ prefix) x old new way =
    let rest = goes_split p prefix x way.0 new way.2 in (rest.0, (way.0, way.1, rest.1), rest.2)

module _ (p : RunPlan) (t : Trace) (plan : IsPlanOf p t) (sections : All (IsSectionOf p) t.sections) where
  -- by a commit some attempt reaches one number more
  commit_lands : (s : SectionState) (old new : Ledger) (c : Commit) → AreAlike t s old → ledgers.Commits old new c
      → (q : Placed) × ((committing s s.pending).ways_reached ≡ s.ways_reached ++ ByAttempt q ∷ [])
  commit_lands s old new c alike made = by s.pending refl
    where
      by : (pending : List Placed) → s.pending ≡ pending
          → (q : Placed) × ((committing s pending).ways_reached ≡ s.ways_reached ++ ByAttempt q ∷ [])
      by [] is =
          absurd (no_item [] made.first made.others
          (ap (λ (ps : List Placed). map (opened_of t) (attempts_of ps)) (sym is) ∙ sym alike.opened ∙ made.opened))
      by (q ∷ pending) is = (q, refl)

  module _ (x : Transfer) (from : IsTransferredFrom p t.sections x) where
    abbrev f : ℕ
    f = source p t x from

    cut : IsCut t f from.prefix (Commits from.commit)
    cut = steps_cut t f from.prefix (Commits from.commit) from.rest (source_steps p t x from)

    -- where its ledger is before the commit
    way : (mid : Ledger) × GoesThrough p from.prefix p.first mid × ledgers.Commits mid from.ledger from.commit
    way = goes_split p from.prefix (Commits from.commit) p.first from.ledger from.through

    -- where its section is before the commit, and after it
    abbrev before : SectionState
    before = state_after start cut.before

    abbrev after : SectionState
    after = next before (cut.at, Commits from.commit)

    its_way : GoesThrough p (map (λ s. s.1) cut.before) p.first way.0
    its_way = subst (λ (steps : List Step). GoesThrough p steps p.first way.0) (sym cut.plain) way.1

    alike_before : AreAlike t before way.0
    alike_before = alike_after p t plan cut.before start p.first way.0 its_way (alike_first p t plan)

    alike_then : AreAlike t after from.ledger
    alike_then = step_alike p t plan before way.0 from.ledger cut.at (Commits from.commit) alike_before way.2

    counted : AreReachedBy (λ s. ⊤) before
    counted =
        along p t plan (λ s. ⊤) (AreReachedBy (λ s. ⊤)) (reached_next (λ s. ⊤) p t) cut.before start p.first way.0
        (all_from_in (λ s. ⊤) cut.before (λ s i. tt)) its_way (alike_first p t plan) (reached_first (λ s. ⊤))

    told_reached : (q : Placed) × (after.ways_reached ≡ before.ways_reached ++ ByAttempt q ∷ [])
    told_reached = commit_lands before way.0 from.ledger from.commit alike_before way.2

    -- its commit is of the number after those that it had reached
    number : x.seq ≡ suc (length before.ways_reached)
    number =
        let seq = ap (λ (c : Commit). c.seq) way.2.commit in
        omega (arith, from.seq, seq, alike_before.last, counted.counted)

    abbrev later : List HowReached
    later = (reached_stays cut.after after).more

    ends : (history t f).ways_reached ≡ before.ways_reached ++ ByAttempt told_reached.0 ∷ later
    unfolding history
    ends =
        ap (λ (steps : List (ℕ × Step)). (state_after start steps).ways_reached) cut.is
        ∙ ap (λ (s : SectionState). s.ways_reached)
        (fold-append next start cut.before ((cut.at, Commits from.commit) ∷ cut.after))
        ∙ (reached_stays cut.after after).is
        ∙ ap (λ (ls : List HowReached). ls ++ later) told_reached.1
        ∙ append_assoc before.ways_reached (ByAttempt told_reached.0 ∷ []) later

    committed : committed_at t f x.seq ≡ Some told_reached.0
    committed =
        ap (committed_at t f) number
        ∙ ap (λ (ls : List HowReached). attempt_by (slice_get ls (length before.ways_reached))) ends
        ∙ ap attempt_by (get_between before.ways_reached (ByAttempt told_reached.0) later)

    its_path : path_to t f x.seq ≡ flat_map came_by after.ways_reached
    its_path =
        let long : length (before.ways_reached ++ ByAttempt told_reached.0 ∷ []) ≡ x.seq =
        omega (arith, number, length-append before.ways_reached (ByAttempt told_reached.0 ∷ [])) in
        ap (λ (ls : List HowReached). flat_map came_by (take x.seq ls))
        (ends ∙ sym (append_assoc before.ways_reached (ByAttempt told_reached.0 ∷ []) later))
        ∙ ap (flat_map came_by) (take_at (before.ways_reached ++ ByAttempt told_reached.0 ∷ []) later x.seq long
        ∙ sym told_reached.1)

    -- the state has the balances that it had committed
    its_balances : map (λ v. v.value) x.rows ≡ balances_to t f x.seq
    its_balances =
        let values : List ℤ = map (λ v. v.value) x.rows in
        let many : length values ≡ 2 * length t.customers =
        length-map x.rows (λ v. v.value) ∙ from.rows.many ∙ alike_then.rows in
        let same : table_of_rows (rows_of_state x.rows) ≡ rows_after t (path_to t f x.seq) =
        from.rows.rows ∙ alike_then.committed ∙ ap (rows_after t) (sym its_path) in
        rows_are values
        ∙ ap (λ (n : ℕ). first_rows n (balance_of_row values)) many
        ∙ ap (λ (table : Table). first_rows (2 * length t.customers) (values_of table)) same

    -- and no replica before it commits the batch
    none_lower : (e : ℕ) → e < f → is_some (committed_at t e x.seq) ≡ false
    none_lower e lower = by (committed_at t e x.seq) refl
      where
        not_committed : commits_batch x.seq (steps_of t e) ≡ false
        not_committed =
            ap (commits_batch x.seq) (ap (λ (ss : List (List Step)). get_or ss e []) from.source
            ∙ get_or_append_left from.below (its_steps p t x from ∷ from.above) [] e lower)
            ∙ all-get_or (λ steps. IsFalse (commits_batch x.seq steps)) from.below e [] from.lowest lower

        reached : AreReachedBy (IfCommits (λ n. commits_batch n (steps_of t e) ≡ true)) (history t e)
        reached = all_reached (IfCommits (λ n. commits_batch n (steps_of t e) ≡ true)) p t plan sections e
            (all_commit (steps_of t e))

        its_commit : (n : ℕ) (o : Option HowReached) (q : Placed) → slice_get (history t e).ways_reached n ≡ o
            → attempt_by o ≡ Some q → commits_batch (suc n) (steps_of t e) ≡ true
        its_commit n (Some (ByAttempt r)) q there is =
            let own = reached.each n (ByAttempt r) there in
            ap (λ (m : ℕ). commits_batch m (steps_of t e)) (sym own.1) ∙ own.2
        its_commit n (Some (ByTransfer at y)) q there is = none_there q is
        its_commit n (Some Skipped) q there is = none_there q is
        its_commit n None q there is = none_there q is

        commits : (n : ℕ) (q : Placed) → committed_at t e n ≡ Some q → commits_batch n (steps_of t e) ≡ true
        commits zero q at = none_there q at
        commits (suc n) q at = its_commit n (slice_get (history t e).ways_reached n) q refl at

        by : (o : Option Placed) → committed_at t e x.seq ≡ o → is_some (committed_at t e x.seq) ≡ false
        by None is = ap is_some is
        by (Some q) is = absurd (false≢true (sym not_committed ∙ commits x.seq q is))

    pub has_balances_of_first : HasBalancesOfFirst t x.seq x
    has_balances_of_first = (
      f,
      first_found (λ e. is_some (committed_at t e x.seq)) 0 t.sections f (source_there p t x from)
          (λ i lower. let up : 0 + i ≡ i = omega arith in
          ap (λ (e : ℕ). is_some (committed_at t e x.seq)) up ∙ none_lower i lower)
          (let up : 0 + f ≡ f = omega arith in
          ap (λ (e : ℕ). is_some (committed_at t e x.seq)) up ∙ ap is_some committed)
          ∙ (let up : 0 + f ≡ f = omega arith in ap Some up),
      its_balances,
    )

  -- a number that is reached by a state
  pub states_of_first : AreTransferredIn p t.sections → (e n at : ℕ) (x : Transfer)
      → how_reached_at t e n ≡ Some (ByTransfer at x) → HasBalancesOfFirst t n x
  states_of_first transferred e zero at x is = none_there (ByTransfer at x) is
  states_of_first transferred e (suc n) at x is =
      let own = (all_reached (IsRightlyTransferred p t.sections) p t plan sections e
      (rightly_transferred p t transferred e)).each n
      (ByTransfer at x) is in
      subst (λ (m : ℕ). HasBalancesOfFirst t m x) own.0 (has_balances_of_first x own.1)

  -- ---- a replica that committed it

  -- where after a state that was transferred the balances are its own
  module _ (transferred : AreTransferredIn p t.sections) (states : (e n at : ℕ) (x : Transfer)
      → how_reached_at t e n ≡ Some (ByTransfer at x) → balances_to t e n ≡ map (λ v. v.value) x.rows) (e n : ℕ) where
    -- its balances are those of one that committed the batch
    committed_by : (l : HowReached) → slice_get (history t e).ways_reached n ≡ Some l → IsLike t e (suc n)
    committed_by (ByAttempt q) is =
        record { replica = e; attempt = q; committed = ap attempt_by is; balances = refl }
    committed_by (ByTransfer at x) is =
        let own = states_of_first transferred e (suc n) at x is in
        let first = first_committed t (suc n) own.0 own.1 in
        record {
          replica = own.0;
          attempt = first.0;
          committed = first.1;
          balances = states e (suc n) at x is ∙ own.2;
        }
    committed_by Skipped is =
        absurd ((all_reached (IsRightlyTransferred p t.sections) p t plan sections e
        (rightly_transferred p t transferred e)).each n
        Skipped is)

    pub committed_like : suc n ≤ length (history t e).ways_reached → IsLike t e (suc n)
    committed_like reached =
        let there = item_within (history t e).ways_reached n (omega (arith, reached)) in committed_by there.0 there.1
