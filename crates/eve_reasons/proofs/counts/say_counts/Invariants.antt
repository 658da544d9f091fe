-- What was said and the lines of the replicas that are still to come are together all lines.
use Rattle.std.proofs.Common.{◌≡◌}
use Rattle.eve_reasons.specs.Counts.{replica_line}
use Rattle.eve_reasons.proofs.Items.{and_items}
use Rattle.eve_reasons.proofs.counts.say_counts.Given as goal

abbrev pub invariant-replicas : goal.invariant-replicas
invariant-replicas l =
    and_items replica_line l.i l.replicas l.lines ≡ and_items replica_line 0 l.replicas l.initial.lines
