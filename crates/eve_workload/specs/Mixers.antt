-- How the requests of a batch are cut into parallelBatches.
-- docs/DEPLOYMENT.md, "Workload"; docs/TRACE.md, "The deployment's procedure", Mixer.
use Rattle.std.specs.Prelude.{ℕ, ◌==◌, Bool, ◌&&◌, ◌||◌, IsFalse, if◌then◌else◌, List, [], ◌∷◌, ◌++◌, map, length}
use Rattle.std.specs.Prelude.{AllPairs, Option, Some, None, codes}
use Rattle.std.specs.List.{list_any, flat_map}
use Rattle.std.specs.Str.{bytes_eq}
use Rattle.eve_smallbank.specs.declared.entry.Kind.{Kind}
use Rattle.eve_smallbank.specs.Access.{is_write, RowKinds}
use Rattle.eve_smallbank.specs.Touch.{touched_of, rows_in}
use Rattle.eve_grammar.specs.Trace.{Asked, Batch}
use Rattle.eve_workload.specs.declared.mixer.Mixer.{Mixer}
use Rattle.eve_workload.specs.declared.mixer.Mixer.TheVariants.{First, Whole}

-- ---- the mixers

-- the mixer of that name
abbrev pub mixer_named : List ℕ → Option Mixer
mixer_named name = if bytes_eq name (codes "first") then Some First else
    (if bytes_eq name (codes "whole") then Some Whole else None)

-- ---- conflicts

-- both are one row, and at least one of them is written
abbrev pub collide : ℕ × Kind → ℕ × Kind → Bool
collide a b = (a.0 == b.0) && (is_write a.1 || is_write b.1)

-- they share a row that at least one of them writes
abbrev pub share : RowKinds → RowKinds → Bool
share a b = list_any (λ row. list_any (collide row) b) a

-- the rows that a request touches; one that is refused whatever the balances are touches none
abbrev pub rows_touched : List (List ℕ) → Asked → RowKinds
rows_touched names a = rows_in (touched_of names a.request)

-- two requests conflict where they share a row that at least one of them writes
abbrev pub conflict : List (List ℕ) → Asked → Asked → Bool
conflict names a b = share (rows_touched names a) (rows_touched names b)

-- ---- the cut

-- an item at the end of the first group that holds none in conflict with it, or in a new group at the end
abbrev pub placed : {A : Type 0} → (A → A → Bool) → List (List A) → A → List (List A)
placed clash [] item = (item ∷ []) ∷ []
placed clash (group ∷ groups) item =
    if list_any (clash item) group then group ∷ placed clash groups item else (group ++ item ∷ []) ∷ groups

-- the groups, with items placed one after another
abbrev pub first_fit : {A : Type 0} → (A → A → Bool) → List (List A) → List A → List (List A)
first_fit clash groups [] = groups
first_fit clash groups (item ∷ items) = first_fit clash (placed clash groups item) items

-- the parallelBatches of requests
abbrev pub cut : List (List ℕ) → Mixer → List Asked → List (List Asked)
cut names First requests = first_fit (conflict names) [] requests
cut names Whole requests = requests ∷ []

-- the batch with these parallelBatches
abbrev pub batch_with : List (List Asked) → Batch
batch_with groups = record { sizes = map length groups; requests = flat_map (λ group. group) groups }

-- no two of them are in conflict
abbrev pub AreApart : List (List ℕ) → List Asked → Type 0
AreApart names = AllPairs (λ a b. IsFalse (conflict names a b))
