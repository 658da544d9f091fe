-- The entries of each row, gathered along a replica's section. docs/MODEL.md, "What an entry must see".
use Rattle.std.specs.Prelude.{◌≡◌, Some, ℕ, zero, suc, ◌==◌, Bool, ◌&&◌, List, [], ◌∷◌, ◌++◌, map, length, filter, fold}
use Rattle.std.specs.Prelude.{if◌then◌else◌, slice_index_or}
use Rattle.std.specs.List.{flat_map}
use Rattle.eve_smallbank.specs.declared.entry.Entry.{Entry}
use Rattle.eve_smallbank.specs.Chain.{after_own}
use Rattle.eve_smallbank.specs.declared.versioned.Versioned.{Versioned}
use Rattle.eve_grammar.specs.Trace.{Access, Step, Attempts, Commits, RollsBack, Transfers, Trace}
use Rattle.eve_grammar.specs.Spelling.{steps_at}
use Rattle.eve_views.specs.Form.{SomePlace}
use Rattle.eve_views.specs.declared.fault.Fault.{Fault}
use Rattle.eve_history.specs.declared.fate.Fate.{Fate}
use Rattle.eve_history.specs.Section.{Placed, HowReached, SectionState, start, path_of, next, transfers_by}
use Rattle.eve_history.specs.Fates.{fate_in}
use Rattle.eve_history.specs.SectionHistory.{history, ordered, is_committed}
use Rattle.eve_chains.specs.Visible.{opening_table, transferred_table}
use Rattle.eve_chains.specs.Along.{SeesAnother}
use Rattle.eve_chains.specs.Records.{is_settled}

-- ---- states that were transferred

-- where numbers were reached so, in order
abbrev pub states_by : List HowReached → List (List Versioned)
states_by ways_reached = map (λ x. x.1.rows) (transfers_by ways_reached)

-- what a row of replica e has after this many of them: the opening balance after none, and else what the last of them
-- has
abbrev pub bases_of : Trace → ℕ → ℕ → ℕ → Versioned
bases_of t e row zero = opening_table t row
bases_of t e row (suc k) = transferred_table (slice_index_or (states_by (history t e).ways_reached) k []) row

-- ---- attempts and what becomes of them

pub record Fated : Type 0 where
  pub placed : Placed
  pub transferred : ℕ  -- how many states were transferred before it
  pub fate : Fate

-- the attempts that come in these steps, after this state
abbrev pub to_come : SectionState → List (ℕ × Step) → List Fated
to_come s [] = []
to_come s ((at, Attempts a) ∷ rest) =
    record {
      placed = record { offset = at; attempt = a; path = path_of s };
      transferred = length (states_by s.ways_reached);
      fate = fate_in rest (length s.pending);
    }
    ∷ to_come (next s (at, Attempts a)) rest
to_come s ((at, Commits c) ∷ rest) = to_come (next s (at, Commits c)) rest
to_come s ((at, RollsBack r) ∷ rest) = to_come (next s (at, RollsBack r)) rest
to_come s ((at, Transfers x) ∷ rest) = to_come (next s (at, Transfers x)) rest

-- it is committed or discarded in the end
abbrev pub settles : Fated → Bool
settles x = is_settled x.fate

-- the attempts of replica e's section
abbrev pub told_of : Trace → ℕ → List Fated
told_of t e = to_come start (steps_at t e)

-- ---- their entries

-- an entry with its access frame's offset, how many states were transferred before its attempt, the attempt's view and
-- number, and whether the attempt is committed in the end
pub record Noted : Type 0 where
  pub offset : ℕ
  pub transferred : ℕ
  pub view : ℕ
  pub number : ℕ
  pub commits : Bool
  pub entry : Entry

-- those of an access record
abbrev pub noted_by : ℕ → ℕ → ℕ → Bool → ℕ × Access → List Noted
noted_by transferred view number commits x =
    map (λ e. record {
      offset = x.0;
      transferred = transferred;
      view = view;
      number = number;
      commits = commits;
      entry = e;
    }) x.1.entries

-- those of an attempt, in its certificate's order
abbrev pub noted_in : Fated → List Noted
noted_in y =
    flat_map (noted_by y.transferred y.placed.attempt.view y.placed.attempt.seq (is_committed y.fate))
    (ordered y.placed.offset y.placed.attempt)

-- those of the attempts that settle
abbrev pub all_noted : List Fated → List Noted
all_noted ys = flat_map noted_in (filter settles ys)

-- the row's own
abbrev pub of_row : ℕ → List Noted → List Noted
of_row row ns = filter (λ n. n.entry.row == row) ns

-- ---- one row walked by itself

-- what the row has, after this many states that were transferred: after the committed attempts behind the last of them,
-- and with those of the view that are open
pub record Pair : Type 0 where
  pub transferred : ℕ
  pub view : ℕ
  pub committed : Versioned
  pub working : Versioned

-- What the row has as it is committed, where the next entry comes. Where more states were transferred, it is what the
-- last of them has, since nothing was noted of the row behind it. What it has after each is given.
abbrev pub kept_by : (ℕ → Versioned) → Pair → Noted → Versioned
kept_by bases p n = if n.transferred == p.transferred then p.committed else bases n.transferred

-- and with the open attempts: with a new view a rollback came, and the open pair is what the committed one is
abbrev pub due_on_row : (ℕ → Versioned) → Pair → Noted → Versioned
due_on_row bases p n = if (n.transferred == p.transferred)
    && (n.view == p.view) then p.working else kept_by bases p n

-- where the next entry comes, before it
abbrev pub arrived_by : (ℕ → Versioned) → Pair → Noted → Pair
arrived_by bases p n = record {
  transferred = n.transferred;
  view = n.view;
  committed = kept_by bases p n;
  working = due_on_row bases p n;
}

-- with its write, if it is one
abbrev pub updated_by : Pair → Noted → Pair
updated_by p n = record {
  transferred = p.transferred;
  view = p.view;
  committed = if n.commits then after_own p.committed n.entry else p.committed;
  working = after_own p.working n.entry;
}

abbrev pub next_pair : (ℕ → Versioned) → Pair → Noted → Pair
next_pair bases p n = updated_by (arrived_by bases p n) n

-- before any entry
abbrev pub at_first : (ℕ → Versioned) → Pair
at_first bases = record { transferred = 0; view = 0; committed = bases 0; working = bases 0 }

-- after these entries of the row
abbrev pub pair_after : (ℕ → Versioned) → List Noted → Pair
pair_after bases ns = fold (next_pair bases) (at_first bases) ns

-- A fault of replica e at one of these entries of a row, which had this at first and after each state that was
-- transferred: the entry sees something else than the row's walk meets there.
pub record IsWrongOnRow (e : ℕ) (bases : ℕ → Versioned) (ns : List Noted) (f : Fault) : Type 0 where
  pub stands : SomePlace ns
      (λ before n. (n.offset ≡ f.offset)
      × SeesAnother f.code (due_on_row bases (pair_after bases before) n) n.entry)
  pub inside : f.replica ≡ Some e

-- each of these entries of such a row sees what the row's walk meets there
abbrev pub EachSees : (ℕ → Versioned) → List Noted → Type 0
EachSees bases ns =
    (before : List Noted) (n : Noted) (rest : List Noted) → ns ≡ before ++ n ∷ rest
    → (n.entry.version ≡ (due_on_row bases (pair_after bases before) n).version)
    × (n.entry.seen ≡ (due_on_row bases (pair_after bases before) n).value)
