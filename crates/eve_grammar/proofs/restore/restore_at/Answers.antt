use Rattle.std.proofs.Common.{arith, rules}
use Rattle.eve_grammar.proofs.FixedFields.{restore_is}
use Rattle.eve_grammar.proofs.restore.restore_at.Goals as goal

pub returns-then-bytes-lt20 : goal.returns-then-bytes-lt20
returns-then-bytes-lt20 c = rw (restore_is c.args.rows c.args.bytes.now (λ i. omega (arith, c.type_inv.bytes i)))
    (search rules)

pub returns-in_default : goal.returns-in_default
returns-in_default c = rw (restore_is c.args.rows c.args.bytes.now (λ i. omega (arith, c.type_inv.bytes i)))
    (search rules)

pub returns-then-number-rows : goal.returns-then-number-rows
returns-then-number-rows c = rw (restore_is c.args.rows c.args.bytes.now (λ i. omega (arith, c.type_inv.bytes i)))
    (search rules)

pub returns : goal.returns
returns c = rw (restore_is c.args.rows c.args.bytes.now (λ i. omega (arith, c.type_inv.bytes i))) (search rules)
