-- No section that was looked at holds the byte.
use Rattle.std.proofs.Common.{◌<◌, ℕ}
use Rattle.std.specs.Prelude.{IsFalse}
use Rattle.eve_views.specs.Parts.{is_in_section}
use Rattle.eve_views.proofs.trace.Trace.section_of.Given as goal

abbrev pub invariant-sections : goal.invariant-sections
invariant-sections l = (k : ℕ) → k < l.e → IsFalse (is_in_section l.fn.self k l.fn.offset)
