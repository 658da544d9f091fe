use Rattle.std.proofs.Common.{refl}
use Rattle.eve_frames.proofs.certificate.Certificate.new.Goals as goal

pub invariant_of-result : goal.invariant_of-result
invariant_of-result c = c.requires

pub returns : goal.returns
returns c = refl
