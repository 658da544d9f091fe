use Rattle.std.proofs.Common.{rules}
use Rattle.std.proofs.KnownBytes.{Consumes-trans}
use Rattle.eve_streams.proofs.reading.read_all.Goals as goal

pub returns-in_default-extend_from_slice-clause-lost :
    goal.returns-in_default-extend_from_slice-clause-lost
returns-in_default-extend_from_slice-clause-lost g c =
    record { bytes = _; consumed = Consumes-trans _ _ _ _ _ c.chunks.invariant.1 c.in-Ok.ensures.gives }

pub chunks-smaller : goal.chunks-smaller
chunks-smaller g c = search rules

pub returns-clause-end : goal.returns-clause-end
returns-clause-end g c = search rules
