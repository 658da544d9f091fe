-- What is marked of the access records of an attempt that have come.
use Rattle.std.specs.Prelude.{◌≡◌, ℕ, ◌<◌, ◌==◌, false, List, [], ◌∷◌, ◌++◌, length, slice_get, slice_index}
use Rattle.std.specs.Prelude.{slice_index_or, Option, Some, IfNone}
use Rattle.std.specs.List.{list_any, count_by}
use Rattle.eve_grammar.specs.declared.limits.TheConstants.{MOST_REQUESTS, MOST_WORKERS}
use Rattle.eve_grammar.specs.Trace.{Access}
use Rattle.eve_views.specs.declared.fault.Code.{Code}
use Rattle.eve_history.specs.declared.wrong.Wrong.{Wrong}
use Rattle.eve_history.specs.declared.access_marks.AccessMarks.{AccessMarks}
use Rattle.eve_history.specs.Structure.{accesses_of}
use Rattle.eve_history.specs.inner.FirstWrong.{wrong_access, wrong_accesses}

-- the indexes and the workers of the records are marked, and each record's offset under its index
pub record AreMarked (before : List (ℕ × Access)) (m : AccessMarks) : Type 0 where
  pub indexes : length m.seen ≡ MOST_REQUESTS
  pub slots : length m.offsets ≡ MOST_REQUESTS
  pub workers : length m.places ≡ MOST_WORKERS
  pub seen : (i : ℕ) → i < MOST_REQUESTS → slice_index_or m.seen i false
      ≡ list_any (λ y. y.index == i) (accesses_of before)
  pub places : (w : ℕ) → w < MOST_WORKERS → slice_index m.places w
      ≡ count_by (λ y. y.worker == w) (accesses_of before)
  pub offsets : (k : ℕ) (y : ℕ × Access) → slice_get before k ≡ Some y → (y.1.index < MOST_REQUESTS)
      × (slice_index m.offsets y.1.index ≡ y.0)

-- the next record is judged, and marked where it is right
-- Where it isn't so, F22 Access and F23 WorkerOrder stands.
pub record IsMarkedIfRight (workers count : ℕ) (before : List (ℕ × Access)) (x : ℕ × Access) (result : Option Code)
    (m : AccessMarks) : Type 0 where
  pub answer : result ≡ wrong_access workers count (accesses_of before) x.1
  pub marked : IfNone result (AreMarked (before ++ x ∷ []) m)

-- the records of an attempt are judged, and marked where all are right
pub record AreMarkedIfRight (workers count : ℕ) (xs : List (ℕ × Access)) (result : Option Wrong)
    (m : AccessMarks) : Type 0 where
  pub answer : result ≡ wrong_accesses workers count [] xs
  pub marked : IfNone result (AreMarked xs m)
