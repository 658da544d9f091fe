use Rattle.std.proofs.Common.{◌≡◌, ℕ, ◌+◌, ◌-◌, ◌<◌, take, drop, slice_get, Some, subst, ◌∙◌, arith}
use Rattle.eve_frames.specs.Decoded.{attempt_decoded}
use Rattle.eve_history.specs.SectionHistory.{access_with}
use Rattle.eve_evidence.specs.Sources.{passed, passed_by}
use Rattle.eve_evidence.specs.Sought.{RecordMeets, NoneFound, IsFoundAlone, IsLastFound}
use Rattle.eve_evidence.proofs.Lists.{get-take, if_none, if_some}
use Rattle.eve_evidence.proofs.RecordsMet.{last_here, none_back, none_found}
use Rattle.eve_evidence.proofs.sought.last_found_in.Goals as goal

pub returns-then-not-may_have_found-clause-none : goal.returns-then-not-may_have_found-clause-none
returns-then-not-may_have_found-clause-none c =
    none_found c.args.sought.now (attempt_decoded c.args.attempt.now).seq c.args.accesses.now _
    (c.may_have_found.ensures c.if-not-may_have_found.true)

pub returns-then-is_some-clause-last : goal.returns-then-is_some-clause-last
returns-then-is_some-clause-last c =
    let seq = (attempt_decoded c.args.attempt.now).seq in
    let xs = c.args.accesses.now in
    let order = take c.args.places (attempt_decoded c.args.attempt.now).certificate in
    let k = c.args.places - 1 - c.loop-back.back in
    let lt : k < c.args.places = omega (arith, c.loop-back-test.true) in
    let next : c.args.places - c.loop-back.back ≡ k + 1 = omega (arith, c.loop-back-test.true) in
    let got : slice_get order k ≡ Some c.index_at-index.result =
    get-take (attempt_decoded c.args.attempt.now).certificate k c.args.places lt ∙ c.index_at-index.ensures in
    let none : NoneFound c.args.sought.now (passed seq xs (drop (k + 1) order)) =
    subst (λ (n : ℕ). NoneFound c.args.sought.now (passed seq xs (drop n order))) next c.loop-back.invariant in
    if_some c.found_alone-found.result
    (IsFoundAlone c.args.sought.now (passed_by seq (access_with xs c.index_at-index.result)))
    (IsLastFound c.args.sought.now (passed seq xs order))
    (λ s own. last_here c.args.sought.now seq xs order k c.index_at-index.result got s own none)
    c.found_alone-found.ensures.met

pub loop-back-preserved : goal.loop-back-preserved
loop-back-preserved c =
    let seq = (attempt_decoded c.args.attempt.now).seq in
    let xs = c.args.accesses.now in
    let order = take c.args.places (attempt_decoded c.args.attempt.now).certificate in
    let k = c.args.places - 1 - c.loop-back.back in
    let lt : k < c.args.places = omega (arith, c.loop-back-test.true) in
    let next : c.args.places - c.loop-back.back ≡ k + 1 = omega (arith, c.loop-back-test.true) in
    let this : k ≡ c.args.places - (c.loop-back.back + 1) = omega arith in
    let got : slice_get order k ≡ Some c.index_at-index.result =
    get-take (attempt_decoded c.args.attempt.now).certificate k c.args.places lt ∙ c.index_at-index.ensures in
    let none : NoneFound c.args.sought.now (passed seq xs (drop (k + 1) order)) =
    subst (λ (n : ℕ). NoneFound c.args.sought.now (passed seq xs (drop n order))) next c.loop-back.invariant in
    subst (λ (n : ℕ). NoneFound c.args.sought.now (passed seq xs (drop n order))) this
    (none_back c.args.sought.now seq xs order k c.index_at-index.result got
    (if_none c.found_alone-found.result
    (RecordMeets c.args.sought.now (passed_by seq (access_with xs c.index_at-index.result)) → ⊥)
    c.if-is_some.ensures c.found_alone-found.ensures.none) none)
