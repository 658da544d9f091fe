-- What a replica's section has among its steps. docs/MODEL.md, "Section state, fate".
use Rattle.std.specs.Prelude.{◌≡◌, ℕ, Some, slice_get}
use Rattle.eve_grammar.specs.Trace.{Step, Trace}
use Rattle.eve_grammar.specs.Spelling.{steps_at}

-- this is a step of replica e, and its frame stands at this offset
abbrev pub IsStepOf : Trace → ℕ → ℕ → Step → Type 0
IsStepOf t e at step = (k : ℕ) × (slice_get (steps_at t e) k ≡ Some (at, step))
