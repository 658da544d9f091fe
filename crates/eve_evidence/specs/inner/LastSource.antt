-- The last source in front of an attempt, and what became of it, while the steps come.
use Rattle.std.specs.Prelude.{◌≡◌, ◌≢◌, ℕ, zero, suc, IsTrue, ◌↔◌, ◌⊎◌, List, ◌∷◌, ◌++◌, length, Option, None, Some}
use Rattle.std.specs.Option.{option_map}
use Rattle.eve_smallbank.specs.declared.versioned.Versioned.{Versioned}
use Rattle.eve_grammar.specs.Trace.{Attempt, Rollback, Step, Attempts, RollsBack, Transfers, Trace, Transfer}
use Rattle.eve_history.specs.Section.{Placed, SectionState, start, state_after}
use Rattle.eve_history.specs.SectionHistory.{placed_at}
use Rattle.eve_chains.specs.Visible.{opening_table}
use Rattle.eve_evidence.specs.declared.evidence.Source.{Source}
use Rattle.eve_evidence.specs.declared.evidence.Source.TheVariants as source
use Rattle.eve_evidence.specs.declared.prefix.Prefix.{Prefix}
use Rattle.eve_evidence.specs.declared.prefix.LastSource.{LastSource}
use Rattle.eve_evidence.specs.declared.prefix.Since.{Since}
use Rattle.eve_evidence.specs.declared.prefix.Since.TheVariants as since
use Rattle.eve_evidence.specs.Course.{last_state}
use Rattle.eve_evidence.specs.Seen.{NamesRow, rollbacks_behind, IsLastRestoring, NoneRestores}
use Rattle.eve_evidence.specs.Seen.{NoneAmong, NoneIn, IsLastAmong, IsLastIn, IsDiscardedBy, IsCommittedIn}

-- the attempt is open, and that many open attempts stand before it
pub record IsOpenAfter (s : SectionState) (b : ℕ × Attempt) (count : ℕ) : Type 0 where
  pub before : List Placed
  pub item : Placed
  pub behind : List Placed
  pub is : s.pending ≡ before ++ item ∷ behind
  pub same : placed_at item ≡ b
  pub count_is : length before ≡ count

-- what became of an attempt in these steps
abbrev pub IsSince : ℕ → List (ℕ × Step) → ℕ × Attempt → Since → Type 0
IsSince row steps b (since.Open count) = IsOpenAfter (state_after start steps) b count
IsSince row steps b since.Settled = IsCommittedIn (state_after start steps) b
IsSince row steps b (since.RolledBack by restores) =
    (r : Rollback) × IsDiscardedBy steps b (by, RollsBack r) × (IsTrue restores ↔ NamesRow row r)
IsSince row steps b (since.Discarded by) = (x : Transfer) × IsDiscardedBy steps b (by, Transfers x)

-- the last source of these steps is a record of an attempt, of which that became
pub record IsOfAttempt (row : ℕ) (has : Versioned) (steps : List (ℕ × Step)) (l : LastSource) : Type 0 where
  pub by : ℕ × Attempt
  pub last : IsLastAmong row has steps (by.0, Attempts by.1) l.source
  pub came : IsSince row steps by l.since

-- or a state that was transferred
pub record IsOfState (row : ℕ) (has : Versioned) (steps : List (ℕ × Step)) (l : LastSource) : Type 0 where
  pub at : ℕ
  pub state : Transfer
  pub last : IsLastAmong row has steps (at, Transfers state) l.source
  pub came : l.since ≡ since.Settled

-- or the opening
pub record IsOfOpening (t : Trace) (row : ℕ) (has : Versioned) (steps : List (ℕ × Step)) (l : LastSource) : Type 0 where
  pub source_is : l.source ≡ source.Opening
  pub gives : opening_table t row ≡ has
  pub none : NoneAmong row has steps
  pub came : l.since ≡ since.Settled

abbrev pub IsLastSource : Trace → ℕ → Versioned → List (ℕ × Step) → Option LastSource → Type 0
IsLastSource t row has steps (Some l) =
    IsOfAttempt row has steps l ⊎ (IsOfState row has steps l ⊎ IsOfOpening t row has steps l)
IsLastSource t row has steps None = (opening_table t row ≢ has) × NoneAmong row has steps

-- what becomes of an attempt at a commit
abbrev pub since_commit : Since → Since
since_commit (since.Open zero) = since.Settled
since_commit (since.Open (suc count)) = since.Open count
since_commit since.Settled = since.Settled
since_commit (since.RolledBack by restores) = since.RolledBack by restores
since_commit (since.Discarded by) = since.Discarded by

-- what becomes of it where all open ones are discarded, so
abbrev pub since_discarded : Since → Since → Since
since_discarded so (since.Open count) = so
since_discarded so since.Settled = since.Settled
since_discarded so (since.RolledBack by restores) = since.RolledBack by restores
since_discarded so (since.Discarded by) = since.Discarded by

-- the last source with what becomes of it then
abbrev pub last_with : (Since → Since) → Option LastSource → Option LastSource
last_with to last = option_map (λ l. record { source = l.source; since = to l.since }) last

-- the last source after an attempt, with the one that was found in it
abbrev pub last_found : ℕ → Option LastSource → Option Source → Option LastSource
last_found count last (Some s) = Some (record { source = s; since = since.Open count })
last_found count last None = last

-- the last source, if one was found in the step
abbrev pub IsSourceFound : ℕ → Versioned → ℕ × Step → Option Source → Type 0
IsSourceFound row has step (Some s) = IsLastIn row has step s
IsSourceFound row has step None = NoneIn row has step

-- the last rollback that restores it, if one does
abbrev pub IsRestoredBy : ℕ → Versioned → List (ℕ × Rollback) → Option ℕ → Type 0
IsRestoredBy row has rs (Some at) = IsLastRestoring row has rs at
IsRestoredBy row has rs None = NoneRestores row has rs

-- the steps have come so far
pub record IsPrefix (t : Trace) (row : ℕ) (has : Versioned) (steps : List (ℕ × Step)) (f : Prefix) : Type 0 where
  pub open_is : f.pending ≡ length (state_after start steps).pending
  pub base_is : f.base ≡ option_map (λ x. x.0) (last_state (state_after start steps).ways_reached)
  pub restored_is : IsRestoredBy row has (rollbacks_behind steps) f.restored
  pub last_is : IsLastSource t row has steps f.last
