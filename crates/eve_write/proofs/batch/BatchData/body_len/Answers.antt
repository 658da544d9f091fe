use Rattle.std.proofs.Common.{length, map, ap, arith}
use Rattle.eve_grammar.specs.Limits.{is_asked}
use Rattle.eve_grammar.specs.Spelling.{asked_text}
use Rattle.eve_write.specs.Data.{asked, batch}
use Rattle.eve_write.proofs.Lengths.{IsGrouped-from_test, length-groups, all_as}
use Rattle.eve_write.proofs.JoinedWrites.{each_as}
use Rattle.eve_write.proofs.batch.BatchData.body_len.Goals as goal

pub overflow_cast-result : goal.overflow_cast-result
overflow_cast-result c =
    let groups = (IsGrouped-from_test (batch c.args.self.now) c.requires).groups in
    omega (arith, groups, c.len.ensures, c.args.self.now.sizes.ok)

pub overflow_mul-result : goal.overflow_mul-result
overflow_mul-result c =
    let groups = (IsGrouped-from_test (batch c.args.self.now) c.requires).groups in
    omega (arith, groups, c.len.ensures, c.args.self.now.sizes.ok)

pub overflow_add-result : goal.overflow_add-result
overflow_add-result c =
    let groups = (IsGrouped-from_test (batch c.args.self.now) c.requires).groups in
    omega (arith, groups, c.len.ensures, c.args.self.now.sizes.ok)

pub len_of_requests-requires-clause-right : goal.len_of_requests-requires-clause-right
len_of_requests-requires-clause-right c =
    all_as is_asked asked c.as_slice.result.now c.args.self.now.requests.items c.as_slice.ensures.value
    (IsGrouped-from_test (batch c.args.self.now) c.requires).right

pub overflow_add-result-2 : goal.overflow_add-result-2
overflow_add-result-2 c =
    let groups = (IsGrouped-from_test (batch c.args.self.now) c.requires).groups in
    omega (arith, groups, c.len.ensures, c.args.self.now.sizes.ok, c.len_of_requests.ensures.small)

pub returns : goal.returns
returns c =
    let b = c.args.self.now in
    let requests = ap length (each_as asked_text asked c.as_slice.result.now b.requests.items c.as_slice.ensures.value)
    in
    omega (
      arith,
      requests,
      length-groups b.sizes.items (map asked b.requests.items),
      c.len.ensures,
      b.sizes.ok,
      c.len_of_requests.ensures.len,
    )
