use Rattle.std.proofs.Common.{◌≡◌, ◌≤◌, ap, sym, ◌∙◌, arith, map, length, sum, leb, eqb, ℕ, zero, suc, true, false}
use Rattle.std.specs.List.{list_all}
use Rattle.std.proofs.lemmas.List.{length-map}
use Rattle.std.proofs.lemmas.Bool.{false≢true}
use Rattle.eve_grammar.specs.Limits.{is_asked}
use Rattle.eve_write.specs.Data.{asked, batch}
use Rattle.eve_write.proofs.PartTests.{batch_is, all_is}
use Rattle.eve_write.proofs.batch.BatchDataJudge.is_right.Goals as goal

some_from : (n : ℕ) → false ≡ eqb n 0 → 1 ≤ n
some_from zero is_none = absurd (false≢true is_none)
some_from (suc n) is_none = omega arith

pub returns-then-none_is_empty : goal.returns-then-none_is_empty
returns-then-none_is_empty c =
    let b = c.args.self.now in
    let sizes = c.as_slice-sizes.ensures.value in
    let sized : list_all (leb 1) b.sizes.items ≡ true = ap (list_all (leb 1)) (sym sizes) ∙ sym c.none_is_empty.ensures
    ∙ c.if-none_is_empty.true in
    let total : sum b.sizes.items ≡ sum c.as_slice-sizes.result.now = ap sum (sym sizes) in
    let long : length b.sizes.items ≡ length c.as_slice-sizes.result.now = ap length (sym sizes) in
    let there = some_from (length c.as_slice-sizes.result.now) c.if-is_empty.ensures in
    let some : 1 ≤ length b.sizes.items = omega (arith, long, there) in
    let few : sum b.sizes.items ≤ 256 =
    omega (arith, total, c.total_of-total.ensures, c.if-total-gt-MOST_REQUESTS.false) in
    let many : length (map asked b.requests.items) ≡ sum b.sizes.items =
    omega (
      arith,
      total,
      c.total_of-total.ensures,
      c.if-total-gt-MOST_REQUESTS.false,
      c.if-len-total.false,
      c.len.ensures,
      b.requests.ok,
      length-map b.requests.items asked,
    ) in
    batch_is (batch b) c.all_right.result some sized few many
    (c.all_right.ensures ∙ all_is is_asked asked c.as_slice.result.now b.requests.items c.as_slice.ensures.value)
