use Rattle.std.proofs.Common.{arith, rules}
use Rattle.eve_grammar.proofs.FixedFields.{header_is}
use Rattle.eve_grammar.proofs.head.Head.read.Goals as goal

pub returns-then-bytes-ne18 : goal.returns-then-bytes-ne18
returns-then-bytes-ne18 c = rw (header_is c.args.bytes.now (λ i. omega (arith, c.type_inv.bytes i))) (search rules)

pub returns-then-is_right : goal.returns-then-is_right
returns-then-is_right c = rw (header_is c.args.bytes.now (λ i. omega (arith, c.type_inv.bytes i))) (search rules)

pub returns-else-is_right : goal.returns-else-is_right
returns-else-is_right c = rw (header_is c.args.bytes.now (λ i. omega (arith, c.type_inv.bytes i))) (search rules)
