-- Why an attempt fails, by the fault of a worker, and why a run ends without a trace. docs/DEPLOYMENT.md, "A run".
use Rattle.std.specs.Prelude.{◌≡◌, ℕ, ◌+◌, ◌-◌, ◌*◌, ◌<◌, ⊤, List, length}
use Rattle.eve_grammar.specs.Frames.{OfTransfer}
use Rattle.eve_grammar.specs.Spelling.{frame_text}
use Rattle.eve_grammar.specs.Trace.{Step, Transfer, Vote}
use Rattle.eve_grammar.specs.declared.limits.TheConstants.{MOST_BYTES}
use Rattle.eve_floor.specs.declared.fault.ExecFault.{ExecFault}
use Rattle.eve_floor.specs.declared.fault.ExecFault.TheVariants as exec
use Rattle.eve_replica.specs.declared.fault.AttemptFault.{AttemptFault}
use Rattle.eve_replica.specs.declared.fault.AttemptFault.TheVariants as attempt
use Rattle.eve_replica.specs.declared.fault.RunFault.{RunFault}
use Rattle.eve_replica.specs.declared.fault.RunFault.TheVariants as run
use Rattle.eve_replica.specs.Sections.{RunPlan}
use Rattle.eve_replica.specs.RunProgress.{HasComeTo, count_first}
use Rattle.eve_replica.specs.Transfers.{states_in}

-- a worker's fault is the attempt's of the same name
abbrev pub attempt_fault_of : ExecFault → AttemptFault
attempt_fault_of exec.Memory = attempt.Memory
attempt_fault_of exec.TickOrder = attempt.TickOrder
attempt_fault_of exec.Full = attempt.Full
attempt_fault_of exec.Worn = attempt.Worn
attempt_fault_of exec.Spent = attempt.Spent
attempt_fault_of exec.NoRow = attempt.NoRow

-- out of memory stays what it is, and every other fault breaks the run
abbrev pub run_fault_of : AttemptFault → RunFault
run_fault_of attempt.Memory = run.Memory
run_fault_of attempt.TickOrder = run.Broken
run_fault_of attempt.Full = run.Broken
run_fault_of attempt.Worn = run.Broken
run_fault_of attempt.Spent = run.Broken
run_fault_of attempt.NoRow = run.Broken
run_fault_of attempt.Mismatch = run.Broken
run_fault_of attempt.Broken = run.Broken

-- A run has come so far, and some batch is left. An attempt of it failed, or the state that is to be transferred has no
-- spelling, or there were two windows for each batch: no clause tells which.
pub record StopsAmid (p : RunPlan) (replicas : ℕ) : Type 0 where
  pub batches : ℕ
  pub sections : List (List Step)
  pub votes : List Vote
  pub come : HasComeTo p replicas batches sections votes
  pub left : batches < length p.batches

-- A run of version 2 has come so far. More than half of all replicas have one token for the next batch, and each other
-- would have the state of it transferred. The frames of these states and of those that were transferred so far have
-- more bytes than a trace may have, whatever stands in them.
pub record TransfersTooMuch (p : RunPlan) (replicas : ℕ) : Type 0 where
  pub version : p.first.version ≡ 2
  pub batches : ℕ
  pub sections : List (List Step)
  pub votes : List Vote
  pub come : HasComeTo p replicas batches sections votes
  pub token : List ℕ
  pub decided : replicas < 2 * count_first token sections
  pub long : (x : Transfer) → length x.rows ≡ 2 * length p.names
      → MOST_BYTES < (states_in sections + (replicas - count_first token sections)) * length (frame_text (OfTransfer x))

-- how a run by this plan, of this number of replicas, may end without a trace
abbrev pub EndsSoFar : RunPlan → ℕ → RunFault → Type 0
EndsSoFar p replicas run.Memory = ⊤
EndsSoFar p replicas run.Broken = StopsAmid p replicas
EndsSoFar p replicas run.TooLong = TransfersTooMuch p replicas

-- a fault that is TooLong only where this holds
abbrev pub IsLongOnly : Type 0 → RunFault → Type 0
IsLongOnly Long run.Memory = ⊤
IsLongOnly Long run.Broken = ⊤
IsLongOnly Long run.TooLong = Long
