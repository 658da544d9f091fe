use Rattle.eve_frames.specs.Views.{batch_in}
use Rattle.eve_grammar.proofs.GroupOrder.{Grouping}
use Rattle.eve_history.proofs.certificate.groups_of.Given as goal

abbrev pub invariant-loop-index : goal.invariant-loop-index
invariant-loop-index l = Grouping (batch_in l.batch.bytes.now).1.sizes l.index l.group l.end l.groups
