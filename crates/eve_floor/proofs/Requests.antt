-- How many requests a batch has, and what they touch.
use Rattle.std.proofs.Common.{◌≤◌, length, IsTrue, arith}
use Rattle.std.proofs.lemmas.List.{length-map}
use Rattle.eve_grammar.specs.Limits.{is_batch}
use Rattle.eve_grammar.proofs.GroupOrder.{few_requests, some_requests}
use Rattle.eve_write.specs.declared.batch.BatchData.{BatchData}
use Rattle.eve_write.specs.Data.{batch, asked}

-- 1 to 256
pub batch_counted : (b : BatchData) → IsTrue (is_batch (batch b)) → (1 ≤ length b.requests.items)
    × (length b.requests.items ≤ 256)
batch_counted b right =
    let few = few_requests (batch b) right in
    let same = length-map b.requests.items asked in
    (omega (arith, some_requests (batch b) right, same), omega (arith, few.0, few.1, same))
