use Rattle.std.proofs.Common.{◌≡◌, ℕ, List, length, take, slice_get, Some, subst, arith}
use Rattle.std.proofs.lemmas.List.{take_all}
use Rattle.eve_frames.specs.Decoded.{attempt_decoded, batch_decoded}
use Rattle.eve_evidence.specs.Certificate.{AreRightPlaces, IsRightPlace, IsWrongPlace, IsCertificateFault}
use Rattle.eve_evidence.proofs.CertificatePlaces.{right_more, all_right}
use Rattle.eve_evidence.proofs.Lists.{item_there, place_at, if_some, if_none}
use Rattle.eve_evidence.proofs.certificate.fault_beside.Goals as goal

pub returns-then-is_some-clause-told : goal.returns-then-is_some-clause-told
returns-then-is_some-clause-told c =
    let b = (batch_decoded c.args.batch.now).1 in
    let r = length b.requests in
    let a = attempt_decoded c.args.attempt.now in
    let place = c.loop-place.place in
    let got = item_there a.certificate place c.len-place-end.result c.loop-place-test.true
    c.len-place-end.ensures.certificate in
    if_some c.wrong_place-wrong.result
    (λ w. (index : ℕ) → slice_get a.certificate place ≡ Some index
    → IsWrongPlace b.sizes r a.serial (take place a.certificate) index w)
    (IsCertificateFault b.sizes r a.serial a.certificate)
    (λ w wrong. place_at (λ before index. AreRightPlaces b.sizes r a.serial before
    × IsWrongPlace b.sizes r a.serial before index w) a.certificate place got.0 got.1
    (c.loop-place.invariant, wrong got.0 got.1)) c.wrong_place-wrong.ensures.wrong

pub loop-place-preserved : goal.loop-place-preserved
loop-place-preserved c =
    let b = (batch_decoded c.args.batch.now).1 in
    let r = length b.requests in
    let a = attempt_decoded c.args.attempt.now in
    let place = c.loop-place.place in
    let got = item_there a.certificate place c.len-place-end.result c.loop-place-test.true
    c.len-place-end.ensures.certificate in
    right_more b.sizes r a.serial a.certificate place got.0 got.1 c.loop-place.invariant
    (if_none c.wrong_place-wrong.result
    ((index : ℕ) → slice_get a.certificate place ≡ Some index
    → IsRightPlace b.sizes r a.serial (take place a.certificate) index)
    c.if-is_some.ensures c.wrong_place-wrong.ensures.right got.0 got.1)

pub returns-clause-right : goal.returns-clause-right
returns-clause-right c = λ count.
    let b = (batch_decoded c.args.batch.now).1 in
    let r = length b.requests in
    let a = attempt_decoded c.args.attempt.now in
    let place = c.loop-place.place in
    let whole : take place a.certificate ≡ a.certificate =
    take_all place a.certificate (omega (arith, c.len-place-end.ensures.certificate, c.loop-place-test.false)) in
    all_right b.sizes r a.serial a.certificate
    (subst (λ (order : List ℕ). AreRightPlaces b.sizes r a.serial order) whole c.loop-place.invariant) count
