use Rattle.std.proofs.Common.{arith, rules}
use Rattle.eve_grammar.proofs.FixedFields.{sent_is}
use Rattle.eve_grammar.proofs.sent.is_sent_body.Goals as goal

pub returns-then-body-ne-SENT_LEN : goal.returns-then-body-ne-SENT_LEN
returns-then-body-ne-SENT_LEN c =
    rw (sent_is c.args.replicas c.args.batches c.args.body.now (omega arith) (omega arith)
    (λ i. omega (arith, c.type_inv.body i))) (search rules)

pub returns-then-seq-batches : goal.returns-then-seq-batches
returns-then-seq-batches c =
    rw (sent_is c.args.replicas c.args.batches c.args.body.now (omega arith) (omega arith)
    (λ i. omega (arith, c.type_inv.body i))) (search rules)

pub returns-else-seq-batches : goal.returns-else-seq-batches
returns-else-seq-batches c =
    rw (sent_is c.args.replicas c.args.batches c.args.body.now (omega arith) (omega arith)
    (λ i. omega (arith, c.type_inv.body i))) (search rules)
