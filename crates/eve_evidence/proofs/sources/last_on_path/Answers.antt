use Rattle.std.proofs.Common.{◌≡◌, ℕ, ◌+◌, ◌-◌, ◌<◌, drop, length, slice_get, Some, refl, subst, arith}
use Rattle.std.proofs.lemmas.Option.{slice_get_read}
use Rattle.eve_evidence.specs.Course.{placed_on}
use Rattle.eve_evidence.specs.Sources.{passed_in, NoneWrites}
use Rattle.eve_evidence.specs.inner.Lasts.{IsLast}
use Rattle.eve_evidence.proofs.Lists.{if_none, if_some}
use Rattle.eve_evidence.proofs.RecordLookups.{on_way, last_on, none_on}
use Rattle.eve_evidence.proofs.sources.last_on_path.Goals as goal

pub returns-then-is_some-clause-last : goal.returns-then-is_some-clause-last
returns-then-is_some-clause-last c =
    let os = c.args.course.now.path.items in
    let k = c.len-count.result - 1 - c.loop-back.back in
    let o = c.index.result.now in
    let lt : k < length os = omega (arith, c.loop-back-test.true, c.len-count.ensures) in
    let next : c.len-count.result - c.loop-back.back ≡ k + 1 = omega (arith, c.loop-back-test.true) in
    let got : slice_get os k ≡ Some o = slice_get_read os (length os) k o refl lt c.index.ensures in
    let none : NoneWrites c.args.row (on_way (drop (k + 1) os)) =
    subst (λ (n : ℕ). NoneWrites c.args.row (on_way (drop n os))) next c.loop-back.invariant in
    if_some c.last_of-found.result (IsLast c.args.row (passed_in (placed_on o))) (IsLast c.args.row (on_way os))
    (λ l last. last_on c.args.row os k o got none l last) c.last_of-found.ensures.last

pub loop-back-preserved : goal.loop-back-preserved
loop-back-preserved c =
    let os = c.args.course.now.path.items in
    let k = c.len-count.result - 1 - c.loop-back.back in
    let o = c.index.result.now in
    let lt : k < length os = omega (arith, c.loop-back-test.true, c.len-count.ensures) in
    let next : c.len-count.result - c.loop-back.back ≡ k + 1 = omega (arith, c.loop-back-test.true) in
    let this : k ≡ c.len-count.result - (c.loop-back.back + 1) = omega arith in
    let got : slice_get os k ≡ Some o = slice_get_read os (length os) k o refl lt c.index.ensures in
    let none : NoneWrites c.args.row (on_way (drop (k + 1) os)) =
    subst (λ (n : ℕ). NoneWrites c.args.row (on_way (drop n os))) next c.loop-back.invariant in
    subst (λ (n : ℕ). NoneWrites c.args.row (on_way (drop n os))) this
    (none_on c.args.row os k o got none
    (if_none c.last_of-found.result (NoneWrites c.args.row (passed_in (placed_on o))) c.if-is_some.ensures
    c.last_of-found.ensures.none))
