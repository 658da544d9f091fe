use Rattle.std.proofs.Common.{take}
use Rattle.eve_frames.specs.Decoded.{attempt_decoded, batch_decoded}
use Rattle.eve_evidence.proofs.CertificatePlaces.{none_more}
use Rattle.eve_evidence.proofs.certificate.missing_before.Goals as goal

pub loop-m-preserved : goal.loop-m-preserved
loop-m-preserved c =
    none_more (batch_decoded c.args.batch.now).1.sizes
    (take c.args.count (attempt_decoded c.args.attempt.now).certificate)
    c.args.index c.loop-m.m c.in-Some.field-0 c.loop-m.invariant c.in-Some.ensures.first
