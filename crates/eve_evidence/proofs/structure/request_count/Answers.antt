use Rattle.std.proofs.Common.{arith}
use Rattle.eve_evidence.proofs.PartsRead.{read_count}
use Rattle.eve_evidence.proofs.structure.request_count.Goals as goal

pub returns-then-number-batch_count : goal.returns-then-number-batch_count
returns-then-number-batch_count c =
    read_count c.args.trace.now _ _ _ _ (omega arith) c.batch.ensures.says c.len.ensures
