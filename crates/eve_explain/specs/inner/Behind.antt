-- The first fault of a trace, and what stands before it. docs/MODEL.md, "Verdict".
use Rattle.std.specs.Prelude.{◌≡◌, ℕ, ◌<◌, List, Some, ◌⊎◌}
use Rattle.eve_grammar.specs.FrameOrder.{Spells}
use Rattle.eve_grammar.specs.Trace.{Trace}
use Rattle.eve_views.specs.Code.{phase_of}
use Rattle.eve_views.specs.declared.fault.Fault.{Fault}
use Rattle.eve_audit.specs.Verdict.{IsFirst}

-- the fault is the first of bytes that spell the trace
abbrev pub IsFirstInTrace : Trace → Fault → Type 0
IsFirstInTrace t f = (bytes : List ℕ) × Spells bytes t × IsFirst bytes f

-- The fault is of a phase behind those of single replicas, or of this replica and of a later phase than this one.
abbrev pub IsBehind : ℕ → Fault → ℕ → Type 0
IsBehind phase f e = (7 < phase_of f.code) ⊎ ((phase < phase_of f.code) × (f.replica ≡ Some e))
