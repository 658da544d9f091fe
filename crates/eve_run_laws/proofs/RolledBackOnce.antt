-- No section of a run goes back twice to one number, where more than half of all would give up one token the second
-- time; or the trace shows a collision.
use Rattle.std.proofs.Common.{◌≡◌, ℕ, zero, suc, ◌+◌, ◌<◌, ◌≤◌, Bool, true, false, cond, List, [], ◌∷◌, ◌++◌}
use Rattle.std.proofs.Common.{map, length, get_or, Some, refl, sym, subst, ap, ◌∙◌, ◌⊎◌, inl, inr, arith}
use Rattle.std.specs.List.{count_by}
use Rattle.std.specs.Cmp.Lexicographic.{bytes_decides}
use Rattle.std.proofs.lemmas.Bool.{eqb-true, false≢true}
use Rattle.std.proofs.lemmas.List.{append-nil}
use Rattle.std.proofs.lemmas.List.Sums.{sum_by-cons}
use Rattle.eve_grammar.specs.Trace.{Transfer, Step, Vote, Trace, head_of}
use Rattle.eve_grammar.specs.declared.head.Head.{Head}
use Rattle.eve_grammar.specs.Limits.{HasLimits}
use Rattle.eve_grammar.specs.Spelling.{steps_of}
use Rattle.eve_grammar.proofs.HeadLimits.{head_has_limits}
use Rattle.eve_votes.proofs.Backers.{Counted, counted}
use Rattle.eve_votes.proofs.DecisionLaws.{quorum_limits}
use Rattle.eve_history.specs.Section.{ByTransfer}
use Rattle.eve_history.specs.SectionHistory.{history, how_reached_at, IsRightSection}
use Rattle.eve_chains.specs.Committed.{balances_to}
use Rattle.eve_workload.specs.declared.mixer.Mixer.{Mixer}
use Rattle.eve_workload.specs.Workload.{Workload}
use Rattle.eve_attempts.specs.Ledgers.{Ledger}
use Rattle.eve_replica.specs.Decisions.{is_some_of, token_given_up}
use Rattle.eve_replica.specs.Sections.{RunPlan, reached_in}
use Rattle.eve_replica.specs.Run.{IsTraceOf, IsDecidedBy, has_reached, run_plan}
use Rattle.eve_run_laws.specs.Collision.{Collides}
use Rattle.eve_run_laws.specs.RolledBack.{rolled_back_to, AreRolledBackOnce}
use Rattle.eve_run_laws.proofs.LedgersAlike.{IsPlanOf}
use Rattle.eve_run_laws.proofs.Agreement.{outcomes_collide}
use Rattle.eve_run_laws.proofs.RightRuns.{plan_of, sections_right, sections_due}
use Rattle.eve_run_laws.proofs.StatesTransferred.{IsLike, committed_like}
use Rattle.eve_run_laws.proofs.Votes.{votes_sound, all_backed}
use Rattle.eve_run_laws.proofs.Rollbacks.{DontFall, dont_fall, Differ, Repeats, differ_or_repeat, differ_before}
use Rattle.eve_run_laws.proofs.Rollbacks.{voted_back_to, voted_along}
use Rattle.eve_run_laws.proofs.GivenUp.{gives_up_serial, number_reached}
use Rattle.eve_run_laws.proofs.SerialTokens.{serial_token}

-- ---- counts

-- one of a list that passes the one test and not the other
record IsLeftOut {A : Type 0} (p q : A → Bool) (xs : List A) : Type 0 where
  place : ℕ
  there : place < length xs
  passes : (d : A) → p (get_or xs place d) ≡ true
  fails : (d : A) → q (get_or xs place d) ≡ false

-- as many pass the other test, or one is left out
count_or_one : {A : Type 0} (p q : A → Bool) (xs : List A) → (count_by p xs ≤ count_by q xs) ⊎ IsLeftOut p q xs
count_or_one p q [] = inl (omega arith)
count_or_one {A = A} p q (x ∷ xs) = by (p x) (q x) refl refl (count_or_one p q xs)
  where
    by : (b c : Bool) → p x ≡ b → q x ≡ c → (count_by p xs ≤ count_by q xs) ⊎ IsLeftOut p q xs
        → (count_by p (x ∷ xs) ≤ count_by q (x ∷ xs)) ⊎ IsLeftOut p q (x ∷ xs)
    by b c one other (inr out) =
        inr (record {
          place = suc out.place;
          there = omega (arith, out.there);
          passes = λ d. out.passes d;
          fails = λ d. out.fails d;
        })
    by true false one other (inl few) =
        inr (record { place = 0; there = omega arith; passes = λ d. one; fails = λ d. other })
    by true true one other (inl few) =
        inl (omega (
          arith,
          few,
          sum_by-cons (λ (y : A). cond (p y) 1 0) x xs,
          sum_by-cons (λ (y : A). cond (q y) 1 0) x xs,
          ap {B = ℕ} (λ b. cond b 1 0) one,
          ap {B = ℕ} (λ b. cond b 1 0) other,
        ))
    by false c one other (inl few) =
        inl (omega (
          arith,
          few,
          sum_by-cons (λ (y : A). cond (p y) 1 0) x xs,
          sum_by-cons (λ (y : A). cond (q y) 1 0) x xs,
          ap {B = ℕ} (λ b. cond b 1 0) one,
        ))

-- ---- one run

-- with what is known of states that are transferred
module _ (states : (t : Trace) (e n at : ℕ) (x : Transfer) → HasLimits t → IsRightSection t e
    → how_reached_at t e n ≡ Some (ByTransfer at x) → balances_to t e n ≡ map (λ v. v.value) x.rows)
    (w : Workload) (mixer : Mixer) (t : Trace) (run : IsTraceOf w mixer t) (limits : HasLimits t) where
  abbrev p : RunPlan
  p = run_plan w mixer

  plan : IsPlanOf p t
  plan = plan_of w mixer t run

  -- a window has an attempt at least
  some : 0 < p.first.window
  some =
      let limit = (head_has_limits (head_of t) limits.head).some_window in
      let window = ap (λ (l : Ledger). l.window) plan.first in
      let own = ap (λ (h : Head). h.window) limits.counts in
      omega (arith, limit, window, own)

  -- whether a section reaches every batch
  abbrev is_whole : List Step → Bool
  is_whole = has_reached (length w.batches)

  -- what the first verifier voted
  abbrev led : List Vote
  led = get_or t.verifiers 0 []

  -- a section's steps were taken on the first of these votes
  abbrev IsLed : List Step → Type 0
  IsLed steps = IsDecidedBy (length w.batches) steps led

  all_led : (e : ℕ) (d : List Step) → e < length t.sections → IsLed (get_or t.sections e d)
  all_led e d there =
      let quorum = quorum_limits t limits in
      run.voted 0 [] (omega (arith, quorum.0, quorum.1)) e d there

  -- the votes tell to which numbers a section goes back first
  told : (steps : List Step) (by : IsLed steps) → voted_back_to led ≡ rolled_back_to steps ++ voted_back_to by.later
  told steps by = ap voted_back_to by.first ∙ voted_along steps by.own by.later by.led

  -- and of one with all commits, to which it goes back at all
  told_whole : (steps : List Step) → IsLed steps → is_whole steps ≡ true → voted_back_to led ≡ rolled_back_to steps
  told_whole steps by whole =
      told steps by
      ∙ ap (λ (later : List Vote). rolled_back_to steps ++ voted_back_to later)
      (by.none_later (eqb-true (reached_in steps) (length w.batches) whole))
      ∙ append-nil (rolled_back_to steps)

  -- some section has all commits
  whole_one : Counted is_whole 1 t.sections
  whole_one = counted is_whole 1 t.sections (omega arith) (omega (arith, run.reached))

  abbrev e : ℕ
  e = whole_one.place

  e_there : e < length t.sections
  e_there = let early = whole_one.early in omega (arith, early)

  all_once : Differ (voted_back_to led) → AreRolledBackOnce t
  all_once differ k d below =
      let steps = get_or t.sections k d in
      let by = all_led k d below in
      differ_before (rolled_back_to steps) (voted_back_to by.later) (subst Differ (told steps by) differ)

  -- ---- two rollbacks to one number

  module _ (twice : Repeats (voted_back_to led)) where
    -- each with all commits goes back twice to it
    goes_back : (f : ℕ) → f < length t.sections → is_whole (steps_of t f) ≡ true
        → rolled_back_to (steps_of t f) ≡ twice.before ++ twice.number ∷ twice.number ∷ twice.rest
    goes_back f there whole = sym (told_whole (steps_of t f) (all_led f [] there) whole) ∙ twice.is

    abbrev view : ℕ
    view = length twice.before + 2

    -- the token of the batch as it is run from what a replica has committed
    abbrev own : ℕ → List ℕ
    own f = serial_token p twice.number (balances_to t f twice.number)

    gives_up : (f : ℕ) → f < length t.sections → is_whole (steps_of t f) ≡ true
        → token_given_up view [] (steps_of t f) ≡ Some (own f)
    gives_up f there whole =
        gives_up_serial p t plan some twice.number twice.rest run.sections f there twice.before
        (goes_back f there whole)

    reached : (f : ℕ) → f < length t.sections → is_whole (steps_of t f) ≡ true
        → twice.number ≤ length (history t f).ways_reached
    reached f there whole =
        number_reached p t plan some twice.number twice.rest run.sections f there twice.before (goes_back f there whole)

    abbrev gives_up_that : List Step → Bool
    gives_up_that steps = is_some_of (own e) (token_given_up view [] steps)

    -- a replica that gives up another token has committed other balances
    balances_apart : (f : ℕ) → f < length t.sections → is_whole (steps_of t f) ≡ true
        → gives_up_that (steps_of t f) ≡ false → ¬ (balances_to t e twice.number ≡ balances_to t f twice.number)
    balances_apart f there whole other same =
        false≢true (sym other ∙ ap (is_some_of (own e)) (gives_up f there whole)
        ∙ (bytes_decides (own f) (own e)).1 (ap (serial_token p twice.number) (sym same)))

    -- each number that a replica reached some replica committed, with the same balances after it
    like : (f n : ℕ) → suc n ≤ length (history t f).ways_reached → IsLike t f (suc n)
    like = committed_like p t plan run.sections run.transferred
        (λ f n at x is. states t f n at x limits (sections_right w mixer t run f) is)

    -- and two replicas that have committed other balances show a collision
    apart_collide : (f n : ℕ) → n ≤ length (history t e).ways_reached → n ≤ length (history t f).ways_reached
        → ¬ (balances_to t e n ≡ balances_to t f n) → Collides t
    apart_collide f zero one other apart = absurd (apart refl)
    apart_collide f (suc n) one other apart =
        let mine = like e n one in
        let its = like f n other in
        outcomes_collide t limits (sections_right w mixer t run) (sections_due w mixer t run)
        (votes_sound w mixer t run limits) (all_backed w mixer t run limits) mine.replica its.replica (suc n)
        mine.attempt its.attempt mine.committed its.committed
        (λ same. apart (mine.balances ∙ same.balances ∙ sym its.balances))

    -- not all with all commits give up the token of one of them
    twice_collides : Collides t
    twice_collides = by (count_or_one is_whole gives_up_that t.sections)
      where
        by : (count_by is_whole t.sections ≤ count_by gives_up_that t.sections)
            ⊎ IsLeftOut is_whole gives_up_that t.sections → Collides t
        by (inl few) = let most = run.undecided view (own e) in absurd (omega (arith, few, most, run.reached))
        by (inr out) =
            apart_collide out.place twice.number (reached e e_there (whole_one.is []))
            (reached out.place out.there (out.passes []))
            (balances_apart out.place out.there (out.passes []) (out.fails []))

  pub once_or_collides : AreRolledBackOnce t ⊎ Collides t
  once_or_collides = by (differ_or_repeat p.first.committed (voted_back_to led) up)
    where
      up : DontFall p.first.committed (voted_back_to led)
      up =
          let one = run.sections e [] e_there in
          subst (DontFall p.first.committed) (sym (told_whole (steps_of t e) (all_led e [] e_there) (whole_one.is [])))
          (dont_fall p (steps_of t e) p.first one.last one.through)

      by : Differ (voted_back_to led) ⊎ Repeats (voted_back_to led) → AreRolledBackOnce t ⊎ Collides t
      by (inl differ) = inl (all_once differ)
      by (inr twice) = inr (twice_collides twice)
