use Rattle.eve_write.specs.Data.{batch as plain}
use Rattle.eve_grammar.proofs.GroupOrder.{Grouping}
use Rattle.eve_attempts.proofs.groups.groups_of.Given as goal

abbrev pub invariant-loop-index : goal.invariant-loop-index
invariant-loop-index l = Grouping (plain l.batch).sizes l.index l.group l.end l.groups
