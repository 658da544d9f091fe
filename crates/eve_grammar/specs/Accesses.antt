-- The access records of an attempt, in the order of their frames. docs/MODEL.md, "Section state, fate".
use Rattle.std.specs.Prelude.{ℕ, nat_lt, ◌==◌, Bool, not, ◌&&◌, List}
use Rattle.std.specs.List.{list_any, count_by}
use Rattle.eve_grammar.specs.Trace.{Access}

-- the worker is one of the workers, and the index one that no access before it has
abbrev pub is_new_access : ℕ → ℕ → List Access → Access → Bool
is_new_access workers count before x =
    nat_lt x.worker workers && (nat_lt x.index count && not (list_any (λ y. y.index == x.index) before))

-- a worker's places count from 0
-- Where it isn't so, F23 WorkerOrder stands.
abbrev pub is_right_place : List Access → Access → Bool
is_right_place before x = x.place == count_by (λ y. y.worker == x.worker) before
