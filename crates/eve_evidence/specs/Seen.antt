-- Where what an entry saw comes from. docs/MODEL.md, "Where what was seen comes from".
use Rattle.std.specs.Prelude.{◌≡◌, ◌≢◌, ℕ, ◌==◌, IsTrue, ◌↔◌, if◌then◌else◌, ⊤, ◌⊎◌, List, [], ◌∷◌, ◌++◌, fold}
use Rattle.std.specs.Prelude.{Option, None, Some}
use Rattle.std.specs.List.{AllByRecursion}
use Rattle.std.specs.Option.{option_map}
use Rattle.eve_smallbank.specs.declared.entry.Entry.{Entry}
use Rattle.eve_smallbank.specs.declared.versioned.Versioned.{Versioned}
use Rattle.eve_smallbank.specs.Access.{is_write}
use Rattle.eve_smallbank.specs.Chain.{left_by}
use Rattle.eve_grammar.specs.Trace.{Attempt, Rollback, Step, Attempts, Commits, RollsBack, Transfers, Trace, Transfer}
use Rattle.eve_grammar.specs.Spelling.{accesses_at}
use Rattle.eve_grammar.specs.declared.restore.Restore.{Restore}
use Rattle.eve_views.specs.Form.{SomePlace}
use Rattle.eve_history.specs.Section.{SectionState, start, state_after, attempts_by}
use Rattle.eve_history.specs.SectionHistory.{placed_at}
use Rattle.eve_chains.specs.Visible.{opening_table, transferred_table}
use Rattle.eve_evidence.specs.declared.evidence.Source.{Source}
use Rattle.eve_evidence.specs.declared.evidence.Source.TheVariants as source
use Rattle.eve_evidence.specs.declared.evidence.SeenFrom.{SeenFrom}
use Rattle.eve_evidence.specs.declared.evidence.SeenFrom.TheVariants as seen
use Rattle.eve_evidence.specs.declared.sought.Sought.TheVariants.{Left, Seen}
use Rattle.eve_evidence.specs.Course.{last_state, standing}
use Rattle.eve_evidence.specs.Sources.{Passed, passed, passed_in, state_table, way_to}
use Rattle.eve_evidence.specs.Sought.{IsFirstFound, IsLastFound, NoneFound}

-- An entry of an attempt's record, and its section: the steps in front of the attempt and those behind it, the
-- attempt's frame and what it says, the record's index, the entry's row, and what the entry saw there.
pub record Look : Type 0 where
  pub prefix : List (ℕ × Step)
  pub behind : List (ℕ × Step)
  pub at : ℕ
  pub attempt : Attempt
  pub index : ℕ
  pub row : ℕ
  pub has : Versioned

abbrev pub look : List (ℕ × Step) → List (ℕ × Step) → ℕ → Attempt → ℕ → ℕ → Versioned → Look
look prefix behind at a index row has =
    record { prefix = prefix; behind = behind; at = at; attempt = a; index = index; row = row; has = has }

-- where the section has come to in front of the attempt
abbrev pub state_of : Look → SectionState
state_of l = state_after start l.prefix

-- ---- on the way, and behind it in its own attempt

-- the last state that was transferred before
abbrev pub base_before : Look → Option (ℕ × Transfer)
base_before l = last_state (state_of l).ways_reached

-- the records on its way: of the attempts that stand, and its own attempt's up to it
abbrev pub way_of : Look → List Passed
way_of l = way_to (standing (state_of l)) l.at l.attempt l.index

-- the base is told: the opening, or that state
abbrev pub IsBase : Option (ℕ × Transfer) → Source → Type 0
IsBase state source.Opening = state ≡ None
IsBase state (source.Transfer at) = option_map (λ x. x.0) state ≡ Some at
IsBase state (source.Write index batch at) = ⊥

-- the last on its way that left what it saw
abbrev pub IsLastOnWay : Trace → Look → Source → Type 0
IsLastOnWay t l s =
    IsLastFound (Left l.row l.has) (way_of l) s
    ⊎ (IsBase (base_before l) s × (state_table t (base_before l) l.row ≡ l.has)
    × NoneFound (Left l.row l.has) (way_of l))

-- nothing on its way did
pub record NoneOnWay (t : Trace) (l : Look) : Type 0 where
  pub base : state_table t (base_before l) l.row ≢ l.has
  pub way : NoneFound (Left l.row l.has) (way_of l)

-- the indexes that stand behind this one
abbrev pub behind_index : ℕ → List ℕ → List ℕ
behind_index index [] = []
behind_index index (j ∷ order) = if j == index then order else behind_index index order

-- the records behind it in its own attempt's certificate, where that is parallel
abbrev pub records_behind : Look → List Passed
records_behind l =
    if l.attempt.serial then []
    else passed l.attempt.seq (accesses_at l.at l.attempt) (behind_index l.index l.attempt.certificate)

-- ---- rollbacks

-- the rollbacks behind the last state that was transferred
abbrev pub and_rollback : List (ℕ × Rollback) → ℕ × Step → List (ℕ × Rollback)
and_rollback rs (at, Attempts a) = rs
and_rollback rs (at, Commits c) = rs
and_rollback rs (at, RollsBack r) = rs ++ (at, r) ∷ []
and_rollback rs (at, Transfers x) = []

abbrev pub rollbacks_behind : List (ℕ × Step) → List (ℕ × Rollback)
rollbacks_behind steps = fold and_rollback [] steps

-- the restore gives the row just that
abbrev pub GivesThat : ℕ → Versioned → Restore → Type 0
GivesThat row has x = (x.row ≡ row) × (record { version = x.version; value = x.value } ≡ has)

-- one of the rollback's does
abbrev pub Restores : ℕ → Versioned → Rollback → Type 0
Restores row has r = SomePlace r.restores (λ _ x. GivesThat row has x)

-- one of them is of the row
abbrev pub NamesRow : ℕ → Rollback → Type 0
NamesRow row r = SomePlace r.restores (λ _ x. x.row ≡ row)

-- of these rollbacks the one at this byte is the last that gives the row just that
pub record IsLastRestoring (row : ℕ) (has : Versioned) (rs : List (ℕ × Rollback)) (at : ℕ) : Type 0 where
  pub before : List (ℕ × Rollback)
  pub item : Rollback
  pub behind : List (ℕ × Rollback)
  pub is : rs ≡ before ++ (at, item) ∷ behind
  pub gives : Restores row has item
  pub none : AllByRecursion (λ r. ¬ Restores row has r.1) behind

abbrev pub NoneRestores : ℕ → Versioned → List (ℕ × Rollback) → Type 0
NoneRestores row has rs = AllByRecursion (λ r. ¬ Restores row has r.1) rs

-- ---- steps

-- the step's last source of that: a record of the attempt, by its certificate, or the state that is transferred
abbrev pub IsLastIn : ℕ → Versioned → ℕ × Step → Source → Type 0
IsLastIn row has (at, Attempts a) s = IsLastFound (Left row has) (passed_in (at, a)) s
IsLastIn row has (at, Commits c) s = ⊥
IsLastIn row has (at, RollsBack r) s = ⊥
IsLastIn row has (at, Transfers x) s = (transferred_table x.rows row ≡ has) × (s ≡ source.Transfer at)

-- its first
abbrev pub IsFirstIn : ℕ → Versioned → ℕ × Step → Source → Type 0
IsFirstIn row has (at, Attempts a) s = IsFirstFound (Left row has) (passed_in (at, a)) s
IsFirstIn row has (at, Commits c) s = ⊥
IsFirstIn row has (at, RollsBack r) s = ⊥
IsFirstIn row has (at, Transfers x) s = (transferred_table x.rows row ≡ has) × (s ≡ source.Transfer at)

-- it has none
abbrev pub NoneIn : ℕ → Versioned → ℕ × Step → Type 0
NoneIn row has (at, Attempts a) = NoneFound (Left row has) (passed_in (at, a))
NoneIn row has (at, Commits c) = ⊤
NoneIn row has (at, RollsBack r) = ⊤
NoneIn row has (at, Transfers x) = transferred_table x.rows row ≢ has

-- none of the steps has
abbrev pub NoneAmong : ℕ → Versioned → List (ℕ × Step) → Type 0
NoneAmong row has steps = AllByRecursion (NoneIn row has) steps

-- the step is the last of these that has one, and this is its last
pub record IsLastAmong (row : ℕ) (has : Versioned) (steps : List (ℕ × Step)) (step : ℕ × Step) (s : Source) : Type 0
  where
    pub before : List (ℕ × Step)
    pub behind : List (ℕ × Step)
    pub is : steps ≡ before ++ step ∷ behind
    pub own : IsLastIn row has step s
    pub none : NoneAmong row has behind

-- the first that has one, and its first
abbrev pub IsFirstAmong : ℕ → Versioned → List (ℕ × Step) → Source → Type 0
IsFirstAmong row has steps s = SomePlace steps (λ before step. NoneAmong row has before × IsFirstIn row has step s)

-- ---- what became of an attempt

-- it is open behind these steps
abbrev pub IsOpenBehind : List (ℕ × Step) → ℕ × Attempt → Type 0
IsOpenBehind steps b = SomePlace (state_after start steps).pending (λ _ p. placed_at p ≡ b)

-- the rollback, or the transfer, at this byte discards it
abbrev pub IsDiscardedBy : List (ℕ × Step) → ℕ × Attempt → ℕ × Step → Type 0
IsDiscardedBy steps b by = SomePlace steps (λ before step. (step ≡ by) × IsOpenBehind before b)

-- it is committed
abbrev pub IsCommittedIn : SectionState → ℕ × Attempt → Type 0
IsCommittedIn s b = SomePlace (attempts_by s.ways_reached) (λ _ p. placed_at p ≡ b)

-- ---- in which order the sources are told

-- there is none on its way, nor behind it in its attempt
pub record NoneNear (t : Trace) (l : Look) : Type 0 where
  pub on_way : NoneOnWay t l
  pub behind_it : NoneFound (Left l.row l.has) (records_behind l)

-- and no rollback behind the base restores it
pub record NoneNearer (t : Trace) (l : Look) : Type 0 where
  pub near : NoneNear t l
  pub restored : NoneRestores l.row l.has (rollbacks_behind l.prefix)

-- the last source in front of the attempt was discarded by this; that it isn't on the way says `NoneNearer`
pub record IsDiscardedSource (t : Trace) (l : Look) (s : Source) (by : ℕ × Step) : Type 0 where
  pub nearer : NoneNearer t l
  pub by_attempt : ℕ × Attempt
  pub last : IsLastAmong l.row l.has l.prefix (by_attempt.0, Attempts by_attempt.1) s
  pub discarded : IsDiscardedBy l.prefix by_attempt by

-- it was committed, or is a state or the opening: so it stands before the base
abbrev pub IsSettledSource : Trace → Look → Source → Type 0
IsSettledSource t l s =
    ((b : ℕ × Attempt) × IsLastAmong l.row l.has l.prefix (b.0, Attempts b.1) s × IsCommittedIn (state_of l) b)
    ⊎ (((at : ℕ) × (x : Transfer) × IsLastAmong l.row l.has l.prefix (at, Transfers x) s)
    ⊎ ((s ≡ source.Opening) × (opening_table t l.row ≡ l.has) × NoneAmong l.row l.has l.prefix))

-- there is none in front of the attempt
pub record NoneInPrefix (t : Trace) (l : Look) : Type 0 where
  pub nearer : NoneNearer t l
  pub opening : opening_table t l.row ≢ l.has
  pub prefix : NoneAmong l.row l.has l.prefix

-- Where what the entry saw comes from: of these the first that there is.
abbrev pub IsSeenFrom : Trace → Look → SeenFrom → Type 0
IsSeenFrom t l (seen.Overwritten s) = IsLastOnWay t l s
IsSeenFrom t l (seen.BehindIt s) = NoneOnWay t l × IsFirstFound (Left l.row l.has) (records_behind l) s
IsSeenFrom t l (seen.Restored at) = NoneNear t l × IsLastRestoring l.row l.has (rollbacks_behind l.prefix) at
IsSeenFrom t l (seen.RolledBack s by restores) =
    (r : Rollback) × IsDiscardedSource t l s (by, RollsBack r) × (IsTrue restores ↔ NamesRow l.row r)
IsSeenFrom t l (seen.Discarded s by) = (x : Transfer) × IsDiscardedSource t l s (by, Transfers x)
IsSeenFrom t l (seen.BeforeState s at) =
    NoneNearer t l × (option_map (λ x. x.0) (base_before l) ≡ Some at) × IsSettledSource t l s
IsSeenFrom t l (seen.Later s) = NoneInPrefix t l × IsFirstAmong l.row l.has l.behind s
IsSeenFrom t l seen.Nobody = NoneInPrefix t l × NoneAmong l.row l.has l.behind

-- ---- who saw what the entry left

-- of a write, the first of these records that saw what it left
abbrev pub IsSeenBy : List Passed → Entry → Option Source → Type 0
IsSeenBy own e (Some s) = IsTrue (is_write e.kind) × IsFirstFound (Seen e.row (left_by e)) own s
IsSeenBy own e None = IsTrue (is_write e.kind) → NoneFound (Seen e.row (left_by e)) own
