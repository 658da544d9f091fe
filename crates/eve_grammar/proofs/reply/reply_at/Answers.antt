use Rattle.std.proofs.Common.{arith, rules}
use Rattle.eve_grammar.proofs.FixedFields.{reply_is}
use Rattle.eve_grammar.proofs.reply.reply_at.Goals as goal

pub returns-then-bytes-lt9 : goal.returns-then-bytes-lt9
returns-then-bytes-lt9 c = rw (reply_is c.args.bytes.now (λ i. omega (arith, c.type_inv.bytes i))) (search rules)

pub returns-in_default : goal.returns-in_default
returns-in_default c = rw (reply_is c.args.bytes.now (λ i. omega (arith, c.type_inv.bytes i))) (search rules)

pub returns : goal.returns
returns c = rw (reply_is c.args.bytes.now (λ i. omega (arith, c.type_inv.bytes i))) (search rules)
