-- Each attempt of a run is sound: its records fit, and its rows are chained from what its path left.
use Rattle.std.proofs.Common.{◌≡◌, ℕ, List, [], ◌∷◌, map, sym, subst, ap}
use Rattle.std.specs.List.{AllByRecursion}
use Rattle.std.proofs.lemmas.List.Sorted.{IsPermutation-map}
use Rattle.eve_smallbank.specs.Access.{Executed, Fits}
use Rattle.eve_smallbank.specs.Chain.{Table}
use Rattle.eve_smallbank.specs.SerialOrder.{IsSound}
use Rattle.eve_smallbank.proofs.Chains.{rows_by_chain}
use Rattle.eve_grammar.specs.Trace.{Attempt, Step, Attempts, Commits, RollsBack, Transfers, Trace}
use Rattle.eve_grammar.proofs.Lists.{all-append}
use Rattle.eve_stamps.specs.Applied.{Applied}
use Rattle.eve_history.specs.Section.{Placed, attempts_by, SectionState, start, path_of, committing, next}
use Rattle.eve_history.proofs.FateLaws.{attempts_by_push, attempts_by_transferring}
use Rattle.eve_history.specs.SectionHistory.{history, names_of}
use Rattle.eve_chains.specs.Visible.{execution}
use Rattle.eve_chains.specs.Sound.{IsSoundAlong, SettledAreSound}
use Rattle.eve_attempts.specs.Ledgers.{Ledger, table_now}
use Rattle.eve_attempts.specs.ClosedAttempts.{touched_in_batch, executed}
use Rattle.eve_attempts.proofs.TickOrder.{all_moved}
use Rattle.eve_replica.specs.Replicas.{attempt_head_of}
use Rattle.eve_replica.specs.Sections.{RunPlan, AttemptsNext, MakesOf}
use Rattle.eve_run_laws.proofs.LedgersAlike.{IsPlanOf, AreAlike}
use Rattle.eve_run_laws.proofs.Executions.{batch_due, executes}

-- ---- how far the attempts are sound

-- each committed, open and discarded one
abbrev pub AreSoundSoFar : Trace → SectionState → Type 0
AreSoundSoFar t s =
    AllByRecursion (IsSoundAlong t) (attempts_by s.ways_reached) × AllByRecursion (IsSoundAlong t) s.pending
    × AllByRecursion (IsSoundAlong t) s.discarded

pub sound_first : (t : Trace) → AreSoundSoFar t start
sound_first t = (tt, tt, tt)

sound_committing : (t : Trace) (s : SectionState) (pending : List Placed) → AllByRecursion (IsSoundAlong t) pending
    → AreSoundSoFar t s → AreSoundSoFar t (committing s pending)
sound_committing t s [] each sound = sound
sound_committing t s (p ∷ pending) each sound = (
  subst (AllByRecursion (IsSoundAlong t)) (sym (attempts_by_push s.ways_reached p))
      (all-append (IsSoundAlong t) (attempts_by s.ways_reached) (p ∷ []) sound.0 (each.0, tt)),
  each.1,
  sound.2,
)

pub settled_sound : (t : Trace) (e : ℕ) → AreSoundSoFar t (history t e) → SettledAreSound t e
settled_sound t e sound =
    all-append (IsSoundAlong t) (attempts_by (history t e).ways_reached) (history t e).discarded sound.0 sound.2

-- ---- one step

module _ (p : RunPlan) (t : Trace) (plan : IsPlanOf p t) where
  attempt_sound : (s : SectionState) (old new : Ledger) (at : ℕ) (a : Attempt) → AreAlike t s old
      → AttemptsNext p old new a → IsSoundAlong t (record { offset = at; attempt = a; path = path_of s })
  attempt_sound s old new at a alike due =
      let closed = due.closed in
      let ran_as : Applied → Executed = executed due.batch in
      let ran : execution t a ≡ map ran_as closed.ordered =
      executes t (attempt_head_of old old.view old.is_next_serial) old new due.batch
      (touched_in_batch p.names due.batch)
      due.records a (batch_due p t old new a plan due) closed in
      subst (λ (table : Table). IsSound (names_of t) table [] (execution t a)) alike.now
      (subst (IsSound (names_of t) (table_now old) []) (sym ran)
      (record {
        fits = all_moved (Fits (names_of t)) (map ran_as due.records) (map ran_as closed.ordered)
            (IsPermutation-map ran_as due.records closed.ordered closed.by_ticks.same)
            (closed.right.noted.fit (names_of t)
            (ap (λ (names : List (List ℕ)). touched_in_batch names due.batch) plan.names));
        chained = rows_by_chain (table_now old) [] (map ran_as closed.ordered) closed.right.chained;
      }))

  pub sound_next : (s : SectionState) (old new : Ledger) (at : ℕ) (x : Step) → AreAlike t s old → MakesOf p x old new
      → AreSoundSoFar t s → AreSoundSoFar t (next s (at, x))
  sound_next s old new at (Attempts a) alike made sound = (
    sound.0,
    all-append (IsSoundAlong t) s.pending (record { offset = at; attempt = a; path = path_of s } ∷ []) sound.1
        (attempt_sound s old new at a alike made, tt),
    sound.2,
  )
  sound_next s old new at (Commits c) alike made sound = sound_committing t s s.pending sound.1 sound
  sound_next s old new at (RollsBack r) alike made sound =
      (sound.0, tt, all-append (IsSoundAlong t) s.discarded s.pending sound.2 sound.1)
  sound_next s old new at (Transfers x) alike made sound = (
    subst (AllByRecursion (IsSoundAlong t)) (sym (attempts_by_transferring s at x)) sound.0,
    tt,
    all-append (IsSoundAlong t) s.discarded s.pending sound.2 sound.1,
  )
