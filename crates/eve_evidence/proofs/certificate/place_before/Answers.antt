use Rattle.std.proofs.Common.{◌≡◌, ◌≢◌, ℕ, length, sym, arith}
use Rattle.std.proofs.lemmas.List.{length-take-le}
use Rattle.eve_frames.specs.Decoded.{attempt_decoded}
use Rattle.eve_evidence.specs.Certificate.{HasNot}
use Rattle.eve_evidence.proofs.Lists.{all_more, place_in_prefix}
use Rattle.eve_evidence.proofs.certificate.place_before.Goals as goal

pub returns-then-index_at-index-clause-first : goal.returns-then-index_at-index-clause-first
returns-then-index_at-index-clause-first c =
    let order = (attempt_decoded c.args.attempt.now).certificate in
    let place = c.loop-place.place in
    place_in_prefix (λ before j. (j ≡ c.args.index) × (place ≡ length before) × HasNot before c.args.index) order
    c.args.count place c.index_at.result c.loop-place-test.true c.index_at.ensures (
      c.if-index_at-index.true,
      sym (length-take-le place order (omega (arith, c.loop-place-test.true, c.requires.there))),
      c.loop-place.invariant,
    )

pub loop-place-preserved : goal.loop-place-preserved
loop-place-preserved c =
    all_more (λ (j : ℕ). j ≢ c.args.index) (attempt_decoded c.args.attempt.now).certificate c.loop-place.place
    c.index_at.result c.index_at.ensures c.loop-place.invariant c.if-index_at-index.false
