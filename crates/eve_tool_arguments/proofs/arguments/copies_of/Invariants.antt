-- What was copied are the names so far.
use Rattle.std.proofs.Common.{◌≡◌, ℕ, List, map, take}
use Rattle.std.specs.Borrow.{Bor}
use Rattle.std.specs.String.{string_bytes}
use Rattle.eve_tool_arguments.proofs.arguments.copies_of.Given as goal

abbrev pub invariant-names : goal.invariant-names
invariant-names l =
    map string_bytes l.copies.items ≡ map (λ (s : Bor (List ℕ)). s.now) (take l.name-index l.names)
