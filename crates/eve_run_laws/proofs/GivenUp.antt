-- A section that goes back twice to one number gives up, the second time, a batch that it attempted in serial mode.
use Rattle.std.proofs.Common.{◌≡◌, ℕ, ℤ, ◌+◌, ◌-◌, ◌<◌, ◌≤◌, min, Bool, true, List, [], ◌∷◌, ◌++◌, map}
use Rattle.std.proofs.Common.{All, take, drop, length, slice_get, Some, refl, sym, subst, ap, ◌∙◌}
use Rattle.std.proofs.Common.{arith, length-append, append-nil}
use Rattle.std.specs.Prelude.{⊤, if◌then◌else◌}
use Rattle.std.specs.List.{flat_map}
use Rattle.std.proofs.lemmas.Bool.{eq-eqb, ne_eqb}
use Rattle.std.proofs.lemmas.List.{take_at}
use Rattle.eve_grammar.specs.Trace.{Rollback, Step, Attempts, Commits, RollsBack, Transfers, Trace}
use Rattle.eve_grammar.specs.Spelling.{steps_of, steps_at}
use Rattle.eve_grammar.proofs.Lists.{same_first, same_others, no_item}
use Rattle.eve_history.specs.Section.{Ran, Placed, came_by, SectionState, start, path_of, next, state_after}
use Rattle.eve_history.specs.SectionHistory.{history}
use Rattle.eve_chains.specs.Committed.{balances_to}
use Rattle.eve_attempts.specs.Ledgers.{Ledger, Opened}
use Rattle.eve_replica.specs.Decisions.{token_given_up}
use Rattle.eve_replica.specs.Sections.{RunPlan, MakesOf, GoesThrough}
use Rattle.eve_replica.specs.Windows.{WindowState, window_with, GoByWindows}
use Rattle.eve_replica.specs.Run.{IsSectionOf}
use Rattle.eve_run_laws.specs.RolledBack.{rolled_back_to}
use Rattle.eve_run_laws.proofs.LedgersAlike.{IsPlanOf, AreAlike}
use Rattle.eve_run_laws.proofs.RightSteps.{alike_first, step_alike}
use Rattle.eve_run_laws.proofs.SectionSteps.{plain_steps}
use Rattle.eve_run_laws.proofs.AllReached.{AreReachedBy, reached_first, reached_next, reached_stays}
use Rattle.eve_run_laws.proofs.DueTokens.{balances_along, balances_now}
use Rattle.eve_run_laws.proofs.Rollbacks.{DontFall, dont_fall}
use Rattle.eve_run_laws.proofs.SerialTokens.{serial_token, token_serial}

-- ---- what is given up next

module _ (p : RunPlan) (number : ℕ) (rest : List ℕ) where
  -- the first open attempt, where no batch is reached before the rollback
  first_stays : (view : ℕ) (token : List ℕ) (others : List (List ℕ)) (steps : List Step) (old last : Ledger)
      → GoesThrough p steps old last → view ≡ old.view + 1 → number ≡ old.committed
      → rolled_back_to steps ≡ number ∷ rest → token_given_up view (token ∷ others) steps ≡ Some token
  first_stays view token others [] old last way at here back = absurd (no_item [] number rest back)
  first_stays view token others (Attempts a ∷ steps) old last way at here back =
      let changed = way.1.closed.opens.changed in
      first_stays view token (others ++ a.token ∷ []) steps way.0 last way.2
      (at ∙ ap (λ (l : Ledger). l.view + 1) (sym changed)) (here ∙ ap (λ (l : Ledger). l.committed) (sym changed))
      back
  first_stays view token others (Commits c ∷ steps) old last way at here back =
      let more = ap (λ (l : Ledger). l.committed) way.1.changed in
      let above = dont_fall p steps way.0 last way.2 in
      let low : way.0.committed ≤ number = (subst (DontFall way.0.committed) back above).0 in
      absurd (omega (arith, more, low, here))
  first_stays view token others (RollsBack r ∷ steps) old last way at here back =
      ap (λ (b : Bool). if b then Some token else token_given_up view [] steps)
      (eq-eqb r.view view (way.1.rolled_back.view ∙ sym at))
  first_stays view token others (Transfers x ∷ steps) old last way at here back =
      let more = ap (λ (l : Ledger). l.committed) way.1.transferred.changed in
      let above = dont_fall p steps way.0 last way.2 in
      let low : way.0.committed ≤ number = (subst (DontFall way.0.committed) back above).0 in
      absurd (omega (arith, more, way.1.next, low, here))

  -- after a rollback, where attempts are due, the batch that is due next, which is attempted in serial mode
  serial_given_up : (view : ℕ) (steps : List Step) (old last : Ledger) (window : ℕ) (state : WindowState)
      → GoesThrough p steps old last → GoByWindows window state steps → 0 < state.due
      → view ≡ old.view + 1 → number ≡ old.committed → rolled_back_to steps ≡ number ∷ rest
      → old.is_next_serial ≡ true → ◌≡◌ {A = List Opened} old.opened [] → old.version ≡ p.first.version
      → token_given_up view [] steps ≡ Some (serial_token p number old.rows.balances)
  serial_given_up view [] old last window state way by due at here back serial none version =
      absurd (no_item [] number rest back)
  serial_given_up view (Attempts a ∷ steps) old last window state way by due at here back serial none version =
      let changed = way.1.closed.opens.changed in
      first_stays view a.token [] steps way.0 last way.2
      (at ∙ ap (λ (l : Ledger). l.view + 1) (sym changed)) (here ∙ ap (λ (l : Ledger). l.committed) (sym changed))
      back
      ∙ ap (λ (token : List ℕ). Some token)
      (token_serial p old way.0 a way.1 serial none version
      ∙ ap (λ (n : ℕ). serial_token p n old.rows.balances) (sym here))
  serial_given_up view (Commits c ∷ steps) old last window state way by due at here back serial none version =
      absurd (omega (arith, due, by.0))
  serial_given_up view (RollsBack r ∷ steps) old last window state way by due at here back serial none version =
      absurd (omega (arith, due, by.0))
  serial_given_up view (Transfers x ∷ steps) old last window state way by due at here back serial none version =
      absurd (omega (arith, due, by.0))

-- ---- along a section

module _ (p : RunPlan) (t : Trace) (plan : IsPlanOf p t) (some : 0 < p.first.window) (number : ℕ) (rest : List ℕ) where
  abbrev IsCounted : SectionState → Type 0
  IsCounted = AreReachedBy (λ x. ⊤)

  -- the token of the batch after this number, run as it is listed from the balances that the first numbers left
  abbrev token_from : SectionState → List ℕ
  token_from end = serial_token p number (balances_along t (flat_map came_by (take number end.ways_reached)))

  -- By its rollback to this view a section that ends so gives up that token, and it reaches the number.
  record GivesUpSerial (view : ℕ) (opened : List (List ℕ)) (steps : List Step) (end : SectionState) : Type 0 where
    token : token_given_up view opened steps ≡ Some (token_from end)
    reached : number ≤ length end.ways_reached

  -- where the ledger is in its window
  record IsInWindow (state : WindowState) (l : Ledger) (steps : List Step) : Type 0 where
    by : GoByWindows p.first.window state steps
    left : state.left ≡ length p.batches - l.committed

  -- by its second rollback to the number, where it has just gone back to it
  second_gives_up : (view : ℕ) (steps : List (ℕ × Step)) (s : SectionState) (old last : Ledger) (state : WindowState)
      → GoesThrough p (map (λ x. x.1) steps) old last → GoByWindows p.first.window state (map (λ x. x.1) steps)
      → 0 < state.due → AreAlike t s old → IsCounted s → s.pending ≡ []
      → old.is_next_serial ≡ true → ◌≡◌ {A = List Opened} old.opened [] → number ≡ old.committed → view ≡ old.view + 1
      → rolled_back_to (map (λ x. x.1) steps) ≡ number ∷ rest
      → GivesUpSerial view [] (map (λ x. x.1) steps) (state_after s steps)
  second_gives_up view steps s old last state way by due alike counted closed serial none here at back =
      let keeps = reached_stays steps s in
      let many : length s.ways_reached ≡ number = sym counted.counted ∙ alike.last ∙ sym here in
      let first : take number (state_after s steps).ways_reached ≡ s.ways_reached =
      ap (take number) keeps.is ∙ take_at s.ways_reached keeps.more number many in
      let path : old.rows.balances ≡ balances_along t (path_of s) =
      balances_now t old (path_of s) alike.rows alike.now in
      let version : old.version ≡ p.first.version = alike.version ∙ ap (λ (l : Ledger). l.version) (sym plan.first) in
      record {
        token = serial_given_up p number rest view (map (λ x. x.1) steps) old last p.first.window state way by due at
            here back serial none version
            ∙ ap (λ (balances : List ℤ). Some (serial_token p number balances))
            (path
            ∙ ap (balances_along t)
            (ap (λ (ps : List Placed). flat_map came_by s.ways_reached ++ map (λ q. Ran q.attempt) ps) closed
            ∙ append-nil (flat_map came_by s.ways_reached) ∙ ap (flat_map came_by) (sym first)));
        reached = omega (arith, many, ap length keeps.is, length-append s.ways_reached keeps.more);
      }

  -- a rollback to a view before this one gives nothing up for it
  passed_by : (view : ℕ) (opened : List (List ℕ)) (r : Rollback) (steps : List (ℕ × Step)) → r.view < view
      → token_given_up view opened (RollsBack r ∷ map (λ x. x.1) steps)
      ≡ token_given_up view [] (map (λ x. x.1) steps)
  passed_by view opened r steps early =
      ap (λ (b : Bool). if b then slice_get opened 0 else token_given_up view [] (map (λ x. x.1) steps))
      (ne_eqb r.view view (λ same. omega (arith, same, early)))

  counted_next : (s : SectionState) (old new : Ledger) (at : ℕ) (x : Step) → AreAlike t s old → MakesOf p x old new
      → IsCounted s → IsCounted (next s (at, x))
  counted_next s old new at x alike made counted = reached_next (λ x. ⊤) p t s old new at x alike made tt counted

  -- by the second of two rollbacks to the number, with others before them
  gives_up_along : (view : ℕ) (opened : List (List ℕ)) (before : List ℕ) (steps : List (ℕ × Step))
      (s : SectionState) (old last : Ledger) (state : WindowState) → GoesThrough p (map (λ x. x.1) steps) old last
      → IsInWindow state old (map (λ x. x.1) steps) → AreAlike t s old
      → IsCounted s → view ≡ old.view + length before + 2
      → rolled_back_to (map (λ x. x.1) steps) ≡ before ++ number ∷ number ∷ rest
      → GivesUpSerial view opened (map (λ x. x.1) steps) (state_after s steps)
  gives_up_along view opened before [] s old last state way within alike counted at back =
      absurd (no_item before number (number ∷ rest) back)
  gives_up_along view opened before ((o, Attempts a) ∷ steps) s old last state way within alike counted at back =
      let same = ap (λ (l : Ledger). l.view) way.1.closed.opens.changed in
      let stays = ap (λ (l : Ledger). l.committed) way.1.closed.opens.changed in
      let left = within.left in
      let later = gives_up_along view (opened ++ a.token ∷ []) before steps (next s (o, Attempts a)) way.0 last
      (record { left = state.left; due = state.due - 1; opened = state.opened + 1 }) way.2
      (record { by = within.by.1; left = omega arith })
      (step_alike p t plan s old way.0 o (Attempts a) alike way.1)
      (counted_next s old way.0 o (Attempts a) alike way.1 counted) (omega (arith, at, same)) back in
      record { token = later.token; reached = later.reached }
  gives_up_along view opened before ((o, Commits c) ∷ steps) s old last state way within alike counted at back =
      let same = ap (λ (l : Ledger). l.view) way.1.changed in
      let more = ap (λ (l : Ledger). l.committed) way.1.changed in
      let left = within.left in
      let later = gives_up_along view (drop 1 opened) before steps (next s (o, Commits c)) way.0 last
      (window_with p.first.window (state.left - 1) (state.opened - 1)) way.2
      (record { by = within.by.1; left = omega arith })
      (step_alike p t plan s old way.0 o (Commits c) alike way.1)
      (counted_next s old way.0 o (Commits c) alike way.1 counted) (omega (arith, at, same)) back in
      record { token = later.token; reached = later.reached }
  gives_up_along view opened before ((o, Transfers x) ∷ steps) s old last state way within alike counted at back =
      let same = ap (λ (l : Ledger). l.view) way.1.transferred.changed ∙ way.1.view in
      let more = ap (λ (l : Ledger). l.committed) way.1.transferred.changed ∙ way.1.next in
      let left = within.left in
      let later = gives_up_along view [] before steps (next s (o, Transfers x)) way.0 last
      (window_with p.first.window (state.left - 1) (state.opened - 1)) way.2
      (record { by = within.by.1; left = omega arith })
      (step_alike p t plan s old way.0 o (Transfers x) alike way.1)
      (counted_next s old way.0 o (Transfers x) alike way.1 counted) (omega (arith, at, same)) back in
      record { token = later.token; reached = later.reached }
  gives_up_along view opened [] ((o, RollsBack r) ∷ steps) s old last state way within alike counted at back =
      let made = way.1.rolled_back in
      let up = ap (λ (l : Ledger). l.view) made.changed in
      let to = same_first r.to number (rolled_back_to (map (λ x. x.1) steps)) (number ∷ rest) back in
      let left = within.left in
      let more = way.1.left in
      let some_left : 0 < state.left = omega arith in
      let due : 0 < min p.first.window state.left = omega arith in
      let later = second_gives_up view steps (next s (o, RollsBack r)) way.0 last
      (window_with p.first.window state.left 0) way.2 within.by.1 due
      (step_alike p t plan s old way.0 o (RollsBack r) alike way.1)
      (counted_next s old way.0 o (RollsBack r) alike way.1 counted) refl
      (ap (λ (l : Ledger). l.is_next_serial) made.changed) (ap (λ (l : Ledger). l.opened) made.changed)
      (sym to ∙ made.to ∙ ap (λ (l : Ledger). l.committed) (sym made.changed)) (omega (arith, at, up))
      (same_others r.to number (rolled_back_to (map (λ x. x.1) steps)) (number ∷ rest) back) in
      record {
        token = passed_by view opened r steps (omega (arith, at, made.view)) ∙ later.token;
        reached = later.reached;
      }
  gives_up_along view opened (n ∷ before) ((o, RollsBack r) ∷ steps) s old last state way within alike counted at back =
      let made = way.1.rolled_back in
      let up = ap (λ (l : Ledger). l.view) made.changed in
      let stays = ap (λ (l : Ledger). l.committed) made.changed in
      let left = within.left in
      let later = gives_up_along view [] before steps (next s (o, RollsBack r)) way.0 last
      (window_with p.first.window state.left 0) way.2 (record { by = within.by.1; left = omega arith })
      (step_alike p t plan s old way.0 o (RollsBack r) alike way.1)
      (counted_next s old way.0 o (RollsBack r) alike way.1 counted) (omega (arith, at, up))
      (same_others r.to n (rolled_back_to (map (λ x. x.1) steps)) (before ++ number ∷ number ∷ rest) back) in
      record {
        token = passed_by view opened r steps (omega (arith, at, made.view)) ∙ later.token;
        reached = later.reached;
      }

  -- So each section that goes back to these numbers gives up, by the same rollback, the token of the batch as it is run
  -- from the balances that the replica has committed.
  module _ (sections : All (IsSectionOf p) t.sections) (e : ℕ) (there : e < length t.sections) (before : List ℕ)
      (back : rolled_back_to (steps_of t e) ≡ before ++ number ∷ number ∷ rest) where
    given_up : GivesUpSerial (length before + 2) [] (map (λ x. x.1) (steps_at t e)) (history t e)
    unfolding history
    given_up =
        let own = sections e [] there in
        let plain = sym (plain_steps t e) in
        let first : p.first.view ≡ 0 = ap (λ (l : Ledger). l.view) plan.first in
        let none : p.first.committed ≡ 0 = ap (λ (l : Ledger). l.committed) plan.first in
        let state : WindowState = window_with p.first.window (length p.batches) 0 in
        gives_up_along (length before + 2) [] before (steps_at t e) start p.first own.last state
        (subst (λ (steps : List Step). GoesThrough p steps p.first own.last) plain own.through)
        (record { by = subst (GoByWindows p.first.window state) plain own.windows; left = omega (arith, none) })
        (alike_first p t plan) (reached_first (λ x. ⊤)) (omega (arith, first))
        (ap rolled_back_to (plain_steps t e) ∙ back)

    pub gives_up_serial : token_given_up (length before + 2) [] (steps_of t e)
        ≡ Some (serial_token p number (balances_to t e number))
    gives_up_serial = ap (token_given_up (length before + 2) []) (sym (plain_steps t e)) ∙ given_up.token

    pub number_reached : number ≤ length (history t e).ways_reached
    number_reached = given_up.reached
