-- Batches that were cut, with what their requests touch.
use Rattle.std.specs.Prelude.{◌≡◌, ℕ, List, map}
use Rattle.eve_smallbank.specs.declared.rows.Touched.{Touched}
use Rattle.eve_smallbank.specs.Touch.{touched_of}
use Rattle.eve_grammar.specs.Trace.{Asked}
use Rattle.eve_write.specs.Data.{batch}
use Rattle.eve_workload.specs.declared.mixer.MixedBatch.{MixedBatch}
use Rattle.eve_workload.specs.Mixers.{batch_with}

-- what a request touches
abbrev pub touched_by : List (List ℕ) → Asked → Touched
touched_by names a = touched_of names a.request

-- the batch has these parallelBatches, and each request with it what it touches
pub record IsMixed (names : List (List ℕ)) (groups : List (List Asked)) (mixed : MixedBatch) : Type 0 where
  pub batch_is : batch mixed.batch ≡ batch_with groups
  pub touched_is : mixed.touched.items ≡ map (touched_by names) (batch mixed.batch).requests
