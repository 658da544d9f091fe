use Rattle.std.proofs.Common.{arith}
use Rattle.eve_evidence_form.proofs.Headers.{head_in, says_head}
use Rattle.eve_evidence_form.proofs.head.head_fault.Goals as goal

pub unreachable-requires : goal.unreachable-requires
unreachable-requires c =
    let bytes = c.args.bytes.now in
    c.requires.wrong (head_in bytes)
    (says_head bytes (λ i. omega (arith, c.type_inv.bytes i)) c.requires.long c.in-None.ensures.none)
