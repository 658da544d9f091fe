-- The first of two faults. docs/MODEL.md, "Verdict".
use Rattle.std.specs.Prelude.{nat_lt, ◌==◌, Bool, ◌&&◌, ◌||◌, if◌then◌else◌, Option, Some, None}
use Rattle.eve_views.specs.Code.{code_number, phase_of}
use Rattle.eve_views.specs.declared.fault.Fault.{Fault}

-- by offset, then number
abbrev pub is_before_in_phase : Fault → Fault → Bool
is_before_in_phase f g =
    nat_lt f.offset g.offset || ((f.offset == g.offset) && nat_lt (code_number f.code) (code_number g.code))

-- by phase, then offset, then number
abbrev pub is_before : Fault → Fault → Bool
is_before f g =
    nat_lt (phase_of f.code) (phase_of g.code) || ((phase_of f.code == phase_of g.code) && is_before_in_phase f g)

-- Of two faults, where there are two, the one that comes first; of two told with the same right, the first given.
abbrev pub first_of : Option Fault → Option Fault → Option Fault
first_of None other = other
first_of (Some f) None = Some f
first_of (Some f) (Some g) = if is_before g f then Some g else Some f
