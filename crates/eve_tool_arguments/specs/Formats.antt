-- Formats of traces. docs/USING.md, "Commands".
use Rattle.std.specs.Prelude.{ℕ, List, Option, Some, None, codes, if◌then◌else◌}
use Rattle.std.specs.Str.{bytes_eq}
use Rattle.eve_tool_arguments.specs.declared.format.Format.{Format}
use Rattle.eve_tool_arguments.specs.declared.format.Format.TheVariants as format

-- the format of that name
abbrev pub format_named : List ℕ → Option Format
format_named name =
    if bytes_eq name (codes "1") then Some format.One
    else (if bytes_eq name (codes "2") then Some format.Two else None)

-- the version that the header of a trace of the format has
abbrev pub version_of : Format → ℕ
version_of format.One = 1
version_of format.Two = 2
