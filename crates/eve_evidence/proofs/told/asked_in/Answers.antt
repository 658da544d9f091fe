use Rattle.std.proofs.Common.{◌∙◌, arith}
use Rattle.eve_evidence.proofs.PartsRead.{read_request, no_request_there}
use Rattle.eve_evidence.proofs.told.asked_in.Goals as goal

pub returns-then-len-index : goal.returns-then-len-index
returns-then-len-index c =
    c.asked_by_nobody-then-len-index.ensures
    ∙ no_request_there c.args.trace.now c.args.seq _ c.args.index c.len.result _ (omega arith)
    c.batch-batch.ensures.says
    c.len.ensures c.if-len-index.true

pub returns : goal.returns
returns c =
    read_request c.args.trace.now c.args.seq _ c.args.index _ _ (omega arith) c.batch-batch.ensures.says
    c.asked_at.ensures
