-- What `run` says of bytes. docs/USING.md, "Lines and statuses"; docs/DEPLOYMENT.md, "A run".
use Rattle.std.specs.Prelude.{◌≡◌, ℕ, ◌<◌, ◌≤◌, List, length, ◌⊎◌, ⊤}
use Rattle.eve_grammar.specs.Trace.{Trace}
use Rattle.eve_grammar.specs.Spelling.{length_of}
use Rattle.eve_grammar.specs.Limits.{HasLimits}
use Rattle.eve_grammar.specs.FrameOrder.{Spells}
use Rattle.eve_workload.specs.declared.mixer.Mixer.{Mixer}
use Rattle.eve_workload.specs.Workload.{Workload, IsWorkload}
use Rattle.eve_workload.specs.Lines.{workload_text}
use Rattle.eve_workload.specs.Steps.{IsBadLine}
use Rattle.eve_write.specs.declared.parts.Parts.{Parts}
use Rattle.eve_replica.specs.Run.{IsRunOf, IsTraceOf, run_plan}
use Rattle.eve_replica.specs.RunFaults.{EndsSoFar}
use Rattle.eve_replica.specs.declared.fault.RunFault.{RunFault}
use Rattle.eve_replica.specs.declared.fault.RunFault.TheVariants as ended
use Rattle.eve_tool_arguments.specs.Formats.{version_of}
use Rattle.eve_tool_arguments.specs.declared.format.Format.{Format}
use Rattle.eve_tool.specs.declared.fault.ToolFault.{ToolFault}
use Rattle.eve_tool.specs.declared.fault.ToolFault.TheVariants as fault

-- the bytes are the text of this workload, which is of the format that is asked for
pub record IsText (asked : Format) (bytes : List ℕ) (workload : Workload) : Type 0 where
  pub text : bytes ≡ workload_text workload
  pub right : IsWorkload workload
  pub format : workload.format ≡ version_of asked

-- the bytes are the text of a workload of the format
abbrev pub IsRunnable : Format → List ℕ → Type 0
IsRunnable asked bytes = (workload : Workload) × IsText asked bytes workload

-- the parts are those of a run of the workload of which the bytes are the text
pub record IsRunOfText (mixer : Mixer) (asked : Format) (bytes : List ℕ) (parts : Parts) : Type 0 where
  pub workload : Workload
  pub typed : IsText asked bytes workload
  pub run : IsRunOf workload mixer parts

-- the bytes are a workload, and the text spells a trace of a run of it, both of `limit` bytes at most; the exit status
-- is 0
pub record Runs (limit : ℕ) (mixer : Mixer) (asked : Format) (bytes text : List ℕ) (status : ℕ) : Type 0 where
  pub short : length bytes ≤ limit
  pub workload : Workload
  pub typed : IsText asked bytes workload
  pub trace : Trace
  pub spelled : Spells text trace
  pub run : IsTraceOf workload mixer trace
  pub fits : length_of trace ≤ limit
  pub ends : status ≡ 0

-- the bytes are a workload, and a trace of a run of it has more than `limit` bytes
pub record RunsTooLong (limit : ℕ) (mixer : Mixer) (asked : Format) (bytes : List ℕ) : Type 0 where
  pub workload : Workload
  pub typed : IsText asked bytes workload
  pub trace : Trace
  pub limits : HasLimits trace
  pub run : IsTraceOf workload mixer trace
  pub long : limit < length_of trace

-- the bytes are a workload, and a run of it may end so, without a trace: it came so far
pub record EndsRun (why : RunFault) (mixer : Mixer) (asked : Format) (bytes : List ℕ) : Type 0 where
  pub workload : Workload
  pub typed : IsText asked bytes workload
  pub ends : EndsSoFar (run_plan workload mixer) workload.deployment.replicas why

-- the bytes, or a trace of a run of them, are more than `limit`, or a run of them would transfer too much
abbrev pub IsTooLong : ℕ → Mixer → Format → List ℕ → Type 0
IsTooLong limit mixer asked bytes =
    (limit < length bytes) ⊎ (RunsTooLong limit mixer asked bytes ⊎ EndsRun ended.TooLong mixer asked bytes)

-- why the bytes are not run, before anything is sent
abbrev pub StopsRun : Mixer → Format → List ℕ → ToolFault → Type 0
StopsRun mixer asked bytes (fault.Line number) = IsBadLine (version_of asked) bytes number
StopsRun mixer asked bytes fault.TooLong = EndsRun ended.TooLong mixer asked bytes
StopsRun mixer asked bytes fault.Random = IsRunnable asked bytes
StopsRun mixer asked bytes fault.Broken = EndsRun ended.Broken mixer asked bytes
StopsRun mixer asked bytes fault.Memory = ⊤
StopsRun mixer asked bytes _ = ⊥
