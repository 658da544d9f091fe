use Rattle.std.proofs.Common.{◌<◌, arith, rules}
use Rattle.eve_grammar.proofs.FixedFields.{entry_is}
use Rattle.eve_grammar.proofs.entry.entry_at.Goals as goal

pub returns-then-bytes-lt29 : goal.returns-then-bytes-lt29
returns-then-bytes-lt29 c = rw (entry_is c.args.rows c.args.bytes.now (λ i. omega (arith, c.type_inv.bytes i)))
    (search rules)

pub returns-in_default : goal.returns-in_default
returns-in_default c = rw (entry_is c.args.rows c.args.bytes.now (λ i. omega (arith, c.type_inv.bytes i)))
    (search rules)

pub returns-in_default-new : goal.returns-in_default-new
returns-in_default-new c = rw (entry_is c.args.rows c.args.bytes.now (λ i. omega (arith, c.type_inv.bytes i)))
    (search rules)

pub returns-in_default-new-2 : goal.returns-in_default-new-2
returns-in_default-new-2 c = rw (entry_is c.args.rows c.args.bytes.now (λ i. omega (arith, c.type_inv.bytes i)))
    (search rules)

pub returns-then-number-rows : goal.returns-then-number-rows
returns-then-number-rows c = rw (entry_is c.args.rows c.args.bytes.now (λ i. omega (arith, c.type_inv.bytes i)))
    (search rules)

pub row_of-row-requires : goal.row_of-row-requires
row_of-row-requires c = omega (arith, c.if-number-rows.false, c.requires)

pub returns : goal.returns
returns c =
    let below : c.u32_in-number.result < c.args.rows = omega (arith, c.if-number-rows.false) in
    rw (entry_is c.args.rows c.args.bytes.now (λ i. omega (arith, c.type_inv.bytes i))) (search rules)
