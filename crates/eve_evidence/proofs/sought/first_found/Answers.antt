use Rattle.std.proofs.Common.{◌≡◌, ℕ, ◌+◌, ◌-◌, ◌≤◌, ◌<◌, List, length, take, drop, slice_get, Some, ap, subst, ◌∙◌}
use Rattle.std.proofs.Common.{arith}
use Rattle.std.proofs.lemmas.List.{length-drop, length-take-le, take_all}
use Rattle.eve_frames.specs.Decoded.{attempt_decoded}
use Rattle.eve_history.specs.SectionHistory.{access_with}
use Rattle.eve_evidence.specs.Sources.{passed, passed_by}
use Rattle.eve_evidence.specs.Sought.{RecordMeets, NoneFound, IsFoundAlone, IsFirstFound}
use Rattle.eve_evidence.proofs.Lists.{get-take, if_none, if_some}
use Rattle.eve_evidence.proofs.RecordsMet.{first_here, get_dropped, none_ahead, none_found}
use Rattle.eve_evidence.proofs.sought.first_found.Goals as goal

-- the index at a place of the stretch
there : (order : List ℕ) (from to place index : ℕ) → from ≤ place → place < to → slice_get order place ≡ Some index
    → slice_get (drop from (take to order)) (place - from) ≡ Some index
there order from to place index le lt got =
    let sum : from + (place - from) ≡ place = omega arith in
    get_dropped (take to order) from (place - from) ∙ ap (λ (m : ℕ). slice_get (take to order) m) sum
    ∙ get-take order place to lt
    ∙ got

pub returns-then-not-may_have_found-clause-none : goal.returns-then-not-may_have_found-clause-none
returns-then-not-may_have_found-clause-none c =
    none_found c.args.sought.now (attempt_decoded c.args.attempt.now).seq c.args.accesses.now _
    (c.may_have_found.ensures c.if-not-may_have_found.true)

pub returns-then-is_some-clause-first : goal.returns-then-is_some-clause-first
returns-then-is_some-clause-first c =
    let seq = (attempt_decoded c.args.attempt.now).seq in
    let xs = c.args.accesses.now in
    let order = drop c.args.from (take c.args.to (attempt_decoded c.args.attempt.now).certificate) in
    let k = c.loop-place.place - c.args.from in
    let got : slice_get order k ≡ Some c.index_at-index.result =
    there (attempt_decoded c.args.attempt.now).certificate c.args.from c.args.to c.loop-place.place
    c.index_at-index.result
    c.loop-place.auto.place c.loop-place-test.true c.index_at-index.ensures in
    if_some c.found_alone-found.result
    (IsFoundAlone c.args.sought.now (passed_by seq (access_with xs c.index_at-index.result)))
    (IsFirstFound c.args.sought.now (passed seq xs order))
    (λ s own. first_here c.args.sought.now seq xs order k c.index_at-index.result got s own c.loop-place.invariant)
    c.found_alone-found.ensures.met

pub loop-place-preserved : goal.loop-place-preserved
loop-place-preserved c =
    let seq = (attempt_decoded c.args.attempt.now).seq in
    let xs = c.args.accesses.now in
    let order = drop c.args.from (take c.args.to (attempt_decoded c.args.attempt.now).certificate) in
    let k = c.loop-place.place - c.args.from in
    let le : c.args.from ≤ c.loop-place.place = c.loop-place.auto.place in
    let next : k + 1 ≡ c.loop-place.place + 1 - c.args.from = omega (arith, le) in
    let got : slice_get order k ≡ Some c.index_at-index.result =
    there (attempt_decoded c.args.attempt.now).certificate c.args.from c.args.to c.loop-place.place
    c.index_at-index.result
    le c.loop-place-test.true c.index_at-index.ensures in
    subst (λ (n : ℕ). NoneFound c.args.sought.now (passed seq xs (take n order))) next
    (none_ahead c.args.sought.now seq xs order k c.index_at-index.result got c.loop-place.invariant
    (if_none c.found_alone-found.result
    (RecordMeets c.args.sought.now (passed_by seq (access_with xs c.index_at-index.result)) → ⊥)
    c.if-is_some.ensures c.found_alone-found.ensures.none))

pub returns-clause-none : goal.returns-clause-none
returns-clause-none c =
    let seq = (attempt_decoded c.args.attempt.now).seq in
    let cert = (attempt_decoded c.args.attempt.now).certificate in
    let order = drop c.args.from (take c.args.to cert) in
    let short : length order ≤ c.loop-place.place - c.args.from =
    omega (
      arith,
      length-drop c.args.from (take c.args.to cert),
      length-take-le c.args.to cert c.requires.to,
      c.loop-place-test.false,
    ) in
    subst (λ (js : List ℕ). NoneFound c.args.sought.now (passed seq c.args.accesses.now js))
    (take_all (c.loop-place.place - c.args.from) order short) c.loop-place.invariant
