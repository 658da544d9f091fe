use Rattle.std.proofs.Common.{arith}
use Rattle.eve_frames.specs.Decoded.{batch_decoded}
use Rattle.eve_evidence.proofs.CertificatePlaces.{walked_more, later_here}
use Rattle.eve_evidence.proofs.certificate.group_start.Goals as goal

pub returns-then-index-start-clause-later : goal.returns-then-index-start-clause-later
returns-then-index-start-clause-later c =
    later_here (batch_decoded c.args.batch.now).1.sizes c.loop-group.group c.loop-group.start c.group-size.result
    c.loop-group.invariant.1 c.group-size.ensures c.args.index c.loop-group.invariant.0 c.if-index-start.true

pub loop-group-preserved : goal.loop-group-preserved
loop-group-preserved c = (
  omega (arith, c.loop-group.invariant.0, c.if-index-start.false),
  walked_more (batch_decoded c.args.batch.now).1.sizes c.loop-group.group c.loop-group.start c.group-size.result
      c.loop-group.invariant.1 c.group-size.ensures,
)
