use Rattle.std.proofs.Common.{◌≤◌}
use Rattle.eve_frames.specs.Decoded.{batch_decoded}
use Rattle.eve_evidence.proofs.CertificatePlaces.{Walked}
use Rattle.eve_evidence.proofs.certificate.group_start.Given as goal

abbrev pub invariant-loop-group : goal.invariant-loop-group
invariant-loop-group l = (l.start ≤ l.index) × Walked (batch_decoded l.batch).1.sizes l.group l.start
