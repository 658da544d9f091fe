use Rattle.std.proofs.Common.{arith, rules}
use Rattle.eve_grammar.proofs.FixedFields.{versioned_is}
use Rattle.eve_grammar.proofs.versioned.versioned_at.Goals as goal

pub returns-then-bytes-lt16 : goal.returns-then-bytes-lt16
returns-then-bytes-lt16 c = rw (versioned_is c.args.bytes.now (λ i. omega (arith, c.type_inv.bytes i))) (search rules)

pub returns-in_default : goal.returns-in_default
returns-in_default c = rw (versioned_is c.args.bytes.now (λ i. omega (arith, c.type_inv.bytes i))) (search rules)

pub returns-then-version-gt-MOST_VERSIONS : goal.returns-then-version-gt-MOST_VERSIONS
returns-then-version-gt-MOST_VERSIONS c =
    rw (versioned_is c.args.bytes.now (λ i. omega (arith, c.type_inv.bytes i))) (search rules)

pub returns : goal.returns
returns c = rw (versioned_is c.args.bytes.now (λ i. omega (arith, c.type_inv.bytes i))) (search rules)
