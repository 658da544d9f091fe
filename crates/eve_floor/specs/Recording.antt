-- What workers note of a batch. docs/DEPLOYMENT.md, "Executions".
use Rattle.std.specs.Prelude.{ℕ, ◌+◌, ⊤, List, [], ◌∷◌, Vec}
use Rattle.std.specs.declared.alloc.Global.{Global}
use Rattle.eve_stamps.specs.Applied.{Applied}
use Rattle.eve_grammar.specs.Trace.{Batch, request_with}
use Rattle.eve_write.specs.Data.{batch as plain}
use Rattle.eve_recorder.specs.Noted.{of_worker}
use Rattle.eve_floor.specs.Executing.{IsRecordOf}
use Rattle.eve_floor.specs.declared.assignment.Assignment.{Assignment}

-- The worker executed requests of the batch, and these are their records, at the places from this one on.
abbrev pub AreMadeBy : ℕ → List (List ℕ) → Batch → ℕ → List Applied → Type 0
AreMadeBy worker names b place [] = ⊤
AreMadeBy worker names b place (r ∷ records) =
    IsRecordOf names (request_with b r.index) r.index worker place r × AreMadeBy worker names b (place + 1) records

-- What was noted of a batch: of each worker the records of the requests that it executed, from its first on.
abbrev pub AreNotedOf : List (List ℕ) → Batch → List Applied → Type 0
AreNotedOf names b records = (worker : ℕ) → AreMadeBy worker names b 0 (of_worker worker records)

-- the same of the batch that was to be run
abbrev pub IsNotedFor : List (List ℕ) → Assignment → Vec Applied Global → Type 0
IsNotedFor names a records = AreNotedOf names (plain a.batch.now) records.items
