use Rattle.std.proofs.Common.{arith}
use Rattle.eve_grammar.proofs.NumbersBelow.{numbers_below}
use Rattle.eve_write.proofs.fields.indexes_fit.Goals as goal

pub returns : goal.returns
returns c = numbers_below 65536 c.args.indexes.now (λ i. omega (arith, c.type_inv.indexes i))
