-- A batch that a crew is to run, and how many workers take part. docs/DEPLOYMENT.md, "Executions".
use Rattle.std.specs.Prelude.{◌≡◌, ℕ, IsTrue, ◌≤◌, max, min, Bool, if◌then◌else◌, List, [], ◌∷◌, map}
use Rattle.eve_write.specs.Data.{batch as plain}
use Rattle.eve_smallbank.specs.declared.rows.Touched.{Touched}
use Rattle.eve_smallbank.specs.Touch.{touched_of}
use Rattle.eve_grammar.specs.declared.limits.TheConstants.{MOST_WORKERS}
use Rattle.eve_grammar.specs.Limits.{is_batch}
use Rattle.eve_grammar.specs.Trace.{Batch}
use Rattle.eve_floor.specs.declared.assignment.Assignment.{Assignment}

-- what each of the batch's requests touches was looked up among these names
abbrev pub AreLookedUp : List (List ℕ) → Batch → List Touched → Type 0
AreLookedUp names b touched = touched ≡ map (λ a. touched_of names a.request) b.requests

-- A batch of a window, for at most the given number of workers, over stripes of these names: it is a batch, what its
-- requests touch was looked up among the names, and some workers take part.
pub record IsRightAssignment (names : List (List ℕ)) (workers : ℕ) (l : Assignment) : Type 0 where
  pub batch : IsTrue (is_batch (plain l.batch.now))
  pub touched : AreLookedUp names (plain l.batch.now) l.touched.now
  pub some : 1 ≤ l.crew
  pub few : l.crew ≤ workers
  pub within : l.crew ≤ MOST_WORKERS

-- the requests of the largest parallelBatch
abbrev pub largest : List ℕ → ℕ
largest [] = 0
largest (size ∷ sizes) = max size (largest sizes)

-- How many of the workers can have something to do at once, one at least: one in serial mode, else at most as many as
-- the largest parallelBatch has requests.
abbrev pub crew_of : List ℕ → ℕ → Bool → ℕ
crew_of sizes workers serial = if serial then 1 else min workers (max 1 (largest sizes))
