-- The tokens of the lines so far and of those that are still to come are together all of them.
use Rattle.std.proofs.Common.{◌≡◌, ◌++◌, drop}
use Rattle.std.specs.List.{flat_map}
use Rattle.eve_objects.specs.Evidence.{line_object}
use Rattle.eve_tool.specs.Explain.{has_numbers, lines_behind}
use Rattle.eve_tool.proofs.explain.put_evidence.Given as goal

abbrev pub invariant-objects : goal.invariant-objects
invariant-objects l =
    (l.writer.tokens ++ flat_map (line_object (has_numbers l.explained)) (drop l.i (lines_behind l.explained))
    ≡ l.initial.writer.tokens ++ flat_map (line_object (has_numbers l.explained)) (lines_behind l.explained))
    × (l.writer.before ≡ l.initial.writer.before)
