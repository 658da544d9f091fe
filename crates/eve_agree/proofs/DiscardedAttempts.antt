-- The open attempts of a section that a rollback discards: their requests are chained from what is committed.
use Rattle.std.proofs.Common.{◌≡◌, ℕ, List, [], ◌∷◌, ◌++◌, map, refl, sym, subst, ap, ◌∙◌}
use Rattle.std.specs.List.{flat_map}
use Rattle.std.proofs.lemmas.Grind.{flat_map-append}
use Rattle.eve_smallbank.specs.Access.{Executed}
use Rattle.eve_smallbank.specs.Chain.{Table, table_after, table_after_all}
use Rattle.eve_smallbank.specs.SerialOrder.{IsSound}
use Rattle.eve_smallbank.proofs.Chains.{Follows, follows_chain, chained_by_rows}
use Rattle.eve_smallbank.proofs.Members.{In, here, there, all_in, in_prefix}
use Rattle.eve_grammar.specs.Trace.{Rollback, Step, Attempts, Commits, RollsBack, Transfers, Trace}
use Rattle.eve_grammar.specs.Spelling.{steps_at, accesses_at}
use Rattle.eve_grammar.specs.Limits.{HasLimits}
use Rattle.eve_history.specs.Section.{Came, Ran, Placed, came_by, attempts_by, SectionState, start, path_of, committing}
use Rattle.eve_history.specs.Section.{next, state_after, settled}
use Rattle.eve_history.specs.SectionHistory.{ExecutedAttempt, executed_attempt, ordered, access_with, history, names_of}
use Rattle.eve_history.specs.SectionHistory.{placed_at, IsRightSection}
use Rattle.eve_history.proofs.StructureLaws.{state_after-append}
use Rattle.eve_chains.specs.Visible.{execution, executions, executed_at, rows_after}
use Rattle.eve_chains.specs.Committed.{attempts_of}
use Rattle.eve_chains.specs.Sound.{IsSoundAlong, SettledAreSound}
use Rattle.eve_chains.specs.Along.{entries_along}
use Rattle.eve_chains.proofs.LinkedPaths.{placed_push, ArePlaced}
use Rattle.eve_chains.proofs.Distinct.{in_right}
use Rattle.eve_chains.proofs.LeftByRecords.{rows_after-push, record_at, same_entries, right_one, complete_one}
use Rattle.eve_agree.proofs.SectionPaths.{came_by_push}
use Rattle.eve_agree.specs.Tables.{committed_rows, entries_of, open_entries}

-- ---- paths

-- each open attempt stands on what came by the numbers that were reached, and on the open ones before it
abbrev IsPlaced : SectionState → Type 0
IsPlaced s = ArePlaced (flat_map came_by s.ways_reached) s.pending

placed_next : (s : SectionState) (step : ℕ × Step) → IsPlaced s → IsPlaced (next s step)
placed_next s (at, Attempts a) placed = placed_push (flat_map came_by s.ways_reached) s.pending
    (record { offset = at; attempt = a; path = path_of s }) placed refl
placed_next s (at, Commits c) placed = by s.pending refl
  where
    by : (pending : List Placed) → s.pending ≡ pending → IsPlaced (committing s pending)
    by [] e = placed
    by (p ∷ ps) e = subst (λ (path : List Came). ArePlaced path ps) (sym (came_by_push s.ways_reached p))
        (subst (ArePlaced (flat_map came_by s.ways_reached)) e placed).1
placed_next s (at, RollsBack r) placed = tt
placed_next s (at, Transfers x) placed = tt

placed_after : (s : SectionState) (steps : List (ℕ × Step)) → IsPlaced s → IsPlaced (state_after s steps)
placed_after s [] placed = placed
placed_after s (step ∷ steps) placed = placed_after (next s step) steps (placed_next s step placed)

-- ---- chained from what is committed

follows-append : (table : Table) (xs ys : List Executed) → Follows table xs → Follows (table_after_all table xs) ys
    → Follows table (xs ++ ys)
follows-append table [] ys first rest = rest
follows-append table (x ∷ xs) ys first rest = (first.0, follows-append (table_after table x.entries) xs ys first.1 rest)

follows_path : (t : Trace) (before : List Came) (ps : List Placed) → ArePlaced before ps
    → ((p : Placed) → In p ps → IsSoundAlong t p) → Follows (rows_after t before) (executions t (attempts_of ps))
follows_path t before [] placed sound = tt
follows_path t before (p ∷ ps) placed sound =
    follows-append (rows_after t before) (execution t p.attempt) (executions t (attempts_of ps))
    (follows_chain (rows_after t before) [] (execution t p.attempt)
    (chained_by_rows (rows_after t before) [] (execution t p.attempt)
    (subst (λ (path : List Came). IsSound (names_of t) (rows_after t path) [] (execution t p.attempt)) placed.0
    (sound p here)).chained))
    (subst (λ (table : Table). Follows table (executions t (attempts_of ps))) (rows_after-push t before p.attempt)
    (follows_path t (before ++ Ran p.attempt ∷ []) ps placed.1 (λ q i. sound q (there i))))

-- ---- what is discarded

stays_discarded : (s : SectionState) (steps : List (ℕ × Step)) (p : Placed) → In p s.discarded
    → In p (state_after s steps).discarded
stays_discarded s [] p i = i
stays_discarded s ((at, Attempts a) ∷ steps) p i = stays_discarded (next s (at, Attempts a)) steps p i
stays_discarded s ((at, Commits c) ∷ steps) p i = stays_discarded (committing s s.pending) steps p (by s.pending)
  where
    by : (pending : List Placed) → In p (committing s pending).discarded
    by [] = i
    by (q ∷ qs) = i
stays_discarded s ((at, RollsBack r) ∷ steps) p i = stays_discarded (next s (at, RollsBack r)) steps p
    (in_prefix s.pending i)
stays_discarded s ((at, Transfers x) ∷ steps) p i = stays_discarded (next s (at, Transfers x)) steps p
    (in_prefix s.pending i)

-- after these steps a rollback comes
module _ (t : Trace) (e : ℕ) (prefix : List (ℕ × Step)) (at : ℕ) (r : Rollback) (rest : List (ℕ × Step))
    (split : steps_at t e ≡ prefix ++ (at, RollsBack r) ∷ rest) where
  -- the open attempts get settled
  gets_settled : (p : Placed) → In p (state_after start prefix).pending → In p (settled (history t e))
  unfolding history
  gets_settled p i =
      let s = state_after start prefix in
      in_right (attempts_by (history t e).ways_reached) _
      (subst (λ (o : SectionState). In p o.discarded)
      (sym (ap (state_after start) split ∙ state_after-append start prefix ((at, RollsBack r) ∷ rest)))
      (stays_discarded (next s (at, RollsBack r)) rest p (in_right s.discarded _ i)))

  pub follows_committed : SettledAreSound t e → Follows (committed_rows t (state_after start prefix))
      (executions t (attempts_of (state_after start prefix).pending))
  follows_committed sound =
      let s = state_after start prefix in
      follows_path t (flat_map came_by s.ways_reached) s.pending (placed_after start prefix tt)
      (λ p i. all_in (IsSoundAlong t) sound (gets_settled p i))

  -- ---- what is read of them

  same_noted : (p : Placed) → HasLimits t → IsRightSection t e → In p (settled (history t e))
      → entries_along (ordered p.offset p.attempt) ≡ entries_of (execution t p.attempt)
  unfolding record_at
  same_noted p limits right member =
      by p.attempt.certificate (same_entries t p (right_one t e p right member) (complete_one t e p limits member))
    where
      by : (order : List ℕ) → ((i : ℕ) → In i order → (access_with (accesses_at p.offset p.attempt) i).1.entries
          ≡ (executed_at t p.attempt i).entries)
          → entries_along (map (access_with (accesses_at p.offset p.attempt)) order)
          ≡ entries_of (map (executed_at t p.attempt) order)
      by [] same = refl
      by (i ∷ order) same = λ j. same i here j ++ by order (λ k m. same k (there m)) j

  all_noted : HasLimits t → IsRightSection t e → (ps : List Placed)
      → ((p : Placed) → In p ps → In p (settled (history t e)))
      → flat_map (λ (q : ExecutedAttempt). entries_along q.ordered) (map executed_attempt (map placed_at ps))
      ≡ entries_of (executions t (attempts_of ps))
  all_noted limits right [] member = refl
  all_noted limits right (p ∷ ps) member =
      (λ i. same_noted p limits right (member p here) i ++ all_noted limits right ps (λ q j. member q (there j)) i)
      ∙ sym (flat_map-append (λ (x : Executed). x.entries) (execution t p.attempt) (executions t (attempts_of ps)))

  pub open_noted : HasLimits t → IsRightSection t e → flat_map (λ (q : ExecutedAttempt). entries_along q.ordered)
      (map executed_attempt (map placed_at (state_after start prefix).pending))
      ≡ open_entries t (state_after start prefix)
  open_noted limits right = all_noted limits right (state_after start prefix).pending gets_settled
