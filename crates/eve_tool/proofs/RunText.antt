-- What a run of the bytes is, and what is left where out fails, once its trace is known to be short enough.
use Rattle.std.proofs.Common.{ℕ, ◌≡◌, ◌<◌, ◌≤◌, ◌^◌, ◌⊎◌, List, length, refl, inl, inr, arith, Option, Some}
use Rattle.eve_grammar.specs.Spelling.{length_of, spelling}
use Rattle.eve_grammar.proofs.Spelled.{spelled_within}
use Rattle.eve_workload.specs.declared.mixer.Mixer.{Mixer}
use Rattle.eve_tool_arguments.specs.declared.format.Format.{Format}
use Rattle.eve_write.specs.Data.{trace}
use Rattle.eve_write.specs.declared.parts.Parts.{Parts}
use Rattle.eve_write.specs.Writes.{Stopped}
use Rattle.eve_tool.specs.declared.fault.ToolFault.{ToolFault}
use Rattle.eve_tool.specs.declared.fault.ToolFault.TheVariants as fault
use Rattle.eve_replica.specs.declared.fault.RunFault.{RunFault}
use Rattle.eve_replica.specs.declared.fault.RunFault.TheVariants as run
use Rattle.eve_tool.specs.Fault.{fault_of_run}
use Rattle.eve_tool.specs.Run.{EndsRun, Runs, IsRunOfText, StopsRun}
use Rattle.eve_tool.specs.Calls.{Leaves}
use Rattle.eve_tool_arguments.specs.Arguments.{Run}

pub runs_of : (limit : ℕ) (mixer : Mixer) (asked : Format) (bytes : List ℕ) (p : Parts) → length bytes ≤ limit
    → limit ≤ 2 ^ 30 → IsRunOfText mixer asked bytes p → length_of (trace p) ≤ limit
    → Runs limit mixer asked bytes (spelling (trace p)) 0
runs_of limit mixer asked bytes p short few run fits = record {
  short = short;
  workload = run.workload;
  typed = run.typed;
  trace = trace p;
  spelled = spelled_within (trace p) run.run.spelled.limits (omega (arith, fits, few));
  run = run.run.run;
  fits = fits;
  ends = refl;
}

pub failed_run : {O : Type 0} (written : O → Option (List ℕ)) (failures : O → ℕ) (limit : ℕ) (mixer : Mixer)
    (asked : Format) (bytes : List ℕ) (p : Parts) (old new : O) → length bytes ≤ limit → limit ≤ 2 ^ 30
    → IsRunOfText mixer asked bytes p → length_of (trace p) ≤ limit → Stopped written failures old new
    (spelling (trace p))
    → Leaves limit written failures (Run mixer asked) (Some bytes) ⊥ old new fault.Write
failed_run written failures limit mixer asked bytes p old new short few run fits stopped = (
  stopped.counted,
  record {
    text = spelling (trace p);
    status = 0;
    said = runs_of limit mixer asked bytes p short few run fits;
    written = stopped.prefix;
  },
)

-- where the run of a workload ends without a trace, it stops for that
pub ended_stops : (mixer : Mixer) (asked : Format) (bytes : List ℕ) (why : RunFault) → EndsRun why mixer asked bytes
    → StopsRun mixer asked bytes (fault_of_run why)
ended_stops mixer asked bytes run.Memory ends = tt
ended_stops mixer asked bytes run.Broken ends = ends
ended_stops mixer asked bytes run.TooLong ends = ends

-- nothing was sent, where the bytes were not run
pub unrun_left : {O : Type 0} (written : O → Option (List ℕ)) (failures : O → ℕ) (limit : ℕ) (mixer : Mixer)
    (asked : Format) (bytes : List ℕ) (out : O) (why : ToolFault) → length bytes ≤ limit
    → StopsRun mixer asked bytes why
    → Leaves limit written failures (Run mixer asked) (Some bytes) ⊥ out out why
unrun_left written failures limit mixer asked bytes out (fault.Line number) short stopped = ((short, stopped), refl)
unrun_left written failures limit mixer asked bytes out fault.TooLong short stopped = (inr (inr stopped), refl)
unrun_left written failures limit mixer asked bytes out fault.Broken short stopped = ((short, stopped), refl)
unrun_left written failures limit mixer asked bytes out fault.Random short stopped = ((short, stopped), refl)
unrun_left written failures limit mixer asked bytes out fault.Memory short stopped = inl refl
unrun_left written failures limit mixer asked bytes out _ short stopped = absurd stopped

-- what was left where the trace of a run is too long, or out failed
pub unsent_left : {O : Type 0} (written : O → Option (List ℕ)) (failures : O → ℕ) (limit : ℕ) (mixer : Mixer)
    (asked : Format) (bytes : List ℕ) (p : Parts) (old new : O) (why : ToolFault) → length bytes ≤ limit
    → limit ≤ 2 ^ 30 → IsRunOfText mixer asked bytes p
    → (why ≡ fault.TooLong → (limit < length_of (trace p)) × (new ≡ old))
    → (why ≡ fault.Write → (length_of (trace p) ≤ limit) × Stopped written failures old new (spelling (trace p)))
    → (why ≡ fault.TooLong) ⊎ (why ≡ fault.Write)
    → Leaves limit written failures (Run mixer asked) (Some bytes) ⊥ old new why
unsent_left written failures limit mixer asked bytes p old new why short few run long stopped (inl is) =
    let told = long is in
    rw is (
      inr (inl (record {
        workload = run.workload;
        typed = run.typed;
        trace = trace p;
        limits = run.run.spelled.limits;
        run = run.run.run;
        long = told.0;
      })),
      told.1,
    )
unsent_left written failures limit mixer asked bytes p old new why short few run long stopped (inr is) =
    let told = stopped is in
    rw is (failed_run written failures limit mixer asked bytes p old new short few run told.0 told.1)
