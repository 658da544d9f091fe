use Rattle.std.proofs.Common.{◌∙◌, refl}
use Rattle.std.proofs.lemmas.Option.{slice_get-get_or}
use Rattle.eve_reasons.specs.Counts.{replica_line}
use Rattle.eve_reasons.proofs.Items.{decoded_all, says_next}
use Rattle.eve_reasons.proofs.counts.say_counts.Goals as goal

pub replicas-preserved : goal.replicas-preserved
replicas-preserved c =
    says_next replica_line _ _ _ _ _ (slice_get-get_or _ _ _ c.replicas-test.true) c.say_replica.ensures
    ∙ c.replicas.invariant

pub returns : goal.returns
returns c =
    decoded_all replica_line c.args.counts.now.replicas _ _ _ _ _ c.min.ensures c.replicas-test.false
    c.replicas.invariant
    ∙ rw c.say.ensures refl
