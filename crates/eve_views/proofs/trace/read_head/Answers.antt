use Rattle.std.proofs.Common.{arith}
use Rattle.eve_views.proofs.HeaderLaws.{says_head}
use Rattle.eve_views.proofs.FormLaws.{refused_at_header}
use Rattle.eve_views.proofs.trace.read_head.Goals as goal

pub returns-in-Ok-clause-says : goal.returns-in-Ok-clause-says
returns-in-Ok-clause-says c =
    says_head c.args.bytes.now c.in-Ok.head (λ i. omega (arith, c.type_inv.bytes i)) c.in-Ok.ensures.head.decoded

pub returns-in-Err-clause-least : goal.returns-in-Err-clause-least
returns-in-Err-clause-least c = (refused_at_header c.in-Err.code c.args.bytes.now c.in-Err.ensures.fault).least

pub returns-in-Err-clause-no_trace : goal.returns-in-Err-clause-no_trace
returns-in-Err-clause-no_trace c =
    (refused_at_header c.in-Err.code c.args.bytes.now c.in-Err.ensures.fault).none
