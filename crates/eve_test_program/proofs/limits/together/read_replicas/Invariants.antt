-- What is told of the replicas so far.
use Rattle.eve_test_program.specs.inner.SectionHistories.{AreTold}
use Rattle.eve_test_program.proofs.limits.together.read_replicas.Given as goal

abbrev pub invariant-replicas : goal.invariant-replicas
invariant-replicas g l = AreTold l.trace l.e l.histories.items l.settled.items
