use Rattle.std.proofs.Common.{◌≡◌, ℕ, ◌<◌, Bool, slice_index_or, None, sym, ap, ◌∙◌, arith}
use Rattle.eve_stamps_schedule.specs.Stripes.{greatest_below}
use Rattle.eve_stamps_schedule.specs.Events.{is_owner}
use Rattle.eve_stamps_schedule.proofs.Changes.{greatest_at, greatest_down}
use Rattle.eve_stamps_schedule.proofs.stripes.last_stripe.Goals as goal

pub loop-stripe-init : goal.loop-stripe-init
loop-stripe-init c =
    ap (λ n. greatest_below n (λ s. is_owner c.args.worker (slice_index_or c.args.owners.now s None)))
    (sym c.requires.owners)

pub returns-then-is_owner : goal.returns-then-is_owner
returns-then-is_owner c =
    let test : ℕ → Bool = λ s. is_owner c.args.worker (slice_index_or c.args.owners.now s None) in
    let some : 0 < c.loop-stripe.stripe = omega arith in
    sym (c.loop-stripe.invariant
    ∙ greatest_at c.loop-stripe.stripe test some (sym c.is_owner.ensures ∙ c.if-is_owner.true))

pub loop-stripe-preserved : goal.loop-stripe-preserved
loop-stripe-preserved c =
    let test : ℕ → Bool = λ s. is_owner c.args.worker (slice_index_or c.args.owners.now s None) in
    let some : 0 < c.loop-stripe.stripe = omega arith in
    c.loop-stripe.invariant ∙ greatest_down c.loop-stripe.stripe test some
    (sym c.is_owner.ensures ∙ c.if-is_owner.false)

pub returns : goal.returns
returns c =
    let none : c.loop-stripe.stripe ≡ 0 = omega arith in
    sym (c.loop-stripe.invariant
    ∙ ap (λ n. greatest_below n (λ s. is_owner c.args.worker (slice_index_or c.args.owners.now s None))) none)
