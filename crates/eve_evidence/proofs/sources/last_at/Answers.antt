use Rattle.std.proofs.Common.{◌≡◌, ℕ, ◌+◌, ◌-◌, ◌<◌, take, drop, slice_get, Some, subst, ◌∙◌, arith}
use Rattle.eve_frames.specs.Decoded.{attempt_decoded}
use Rattle.eve_evidence.specs.Sources.{passed, passed_by, NoneWrites, IsWriter}
use Rattle.eve_evidence.specs.inner.Lasts.{IsLeftAlone, IsLast}
use Rattle.eve_history.specs.SectionHistory.{access_with}
use Rattle.eve_evidence.proofs.Lists.{get-take, if_none, if_some}
use Rattle.eve_evidence.proofs.RecordLookups.{last_found, none_more}
use Rattle.eve_evidence.proofs.sources.last_at.Goals as goal

pub returns-then-is_some-clause-last : goal.returns-then-is_some-clause-last
returns-then-is_some-clause-last c =
    let seq = (attempt_decoded c.args.attempt.now).seq in
    let xs = c.args.accesses.now in
    let order = take c.args.places (attempt_decoded c.args.attempt.now).certificate in
    let k = c.args.places - 1 - c.loop-back.back in
    let lt : k < c.args.places = omega (arith, c.loop-back-test.true) in
    let next : c.args.places - c.loop-back.back ≡ k + 1 = omega (arith, c.loop-back-test.true) in
    let got : slice_get order k ≡ Some c.index_at-index.result =
    get-take (attempt_decoded c.args.attempt.now).certificate k c.args.places lt ∙ c.index_at-index.ensures in
    let none : NoneWrites c.args.row (passed seq xs (drop (k + 1) order)) =
    subst (λ (n : ℕ). NoneWrites c.args.row (passed seq xs (drop n order))) next c.loop-back.invariant in
    if_some c.left_at-found.result (IsLeftAlone c.args.row (passed_by seq (access_with xs c.index_at-index.result)))
    (IsLast c.args.row (passed seq xs order))
    (λ l own. last_found c.args.row seq xs order k c.index_at-index.result got none l own)
    c.left_at-found.ensures.written

pub loop-back-preserved : goal.loop-back-preserved
loop-back-preserved c =
    let seq = (attempt_decoded c.args.attempt.now).seq in
    let xs = c.args.accesses.now in
    let order = take c.args.places (attempt_decoded c.args.attempt.now).certificate in
    let k = c.args.places - 1 - c.loop-back.back in
    let lt : k < c.args.places = omega (arith, c.loop-back-test.true) in
    let next : c.args.places - c.loop-back.back ≡ k + 1 = omega (arith, c.loop-back-test.true) in
    let this : k ≡ c.args.places - (c.loop-back.back + 1) = omega arith in
    let got : slice_get order k ≡ Some c.index_at-index.result =
    get-take (attempt_decoded c.args.attempt.now).certificate k c.args.places lt ∙ c.index_at-index.ensures in
    let none : NoneWrites c.args.row (passed seq xs (drop (k + 1) order)) =
    subst (λ (n : ℕ). NoneWrites c.args.row (passed seq xs (drop n order))) next c.loop-back.invariant in
    subst (λ (n : ℕ). NoneWrites c.args.row (passed seq xs (drop n order))) this
    (none_more c.args.row seq xs order k c.index_at-index.result got none
    (if_none c.left_at-found.result (IsWriter c.args.row (passed_by seq (access_with xs c.index_at-index.result)) → ⊥)
    c.if-is_some.ensures c.left_at-found.ensures.none))
