use Rattle.std.proofs.Common.{arith}
use Rattle.eve_grammar.proofs.NumbersBelow.{numbers_below}
use Rattle.eve_grammar.proofs.fits.bytes_fit.Goals as goal

pub returns : goal.returns
returns c = numbers_below 256 c.args.bytes.now (λ i. omega (arith, c.type_inv.bytes i))
