use Rattle.std.proofs.Common.{refl}
use Rattle.eve_stamps.proofs.OpeningLaws.{opening_rows_with, opening_rows_without}
use Rattle.eve_stamps.proofs.opening.opening_rows.Goals as goal
use Rattle.eve_stamps.proofs.opening.opening_rows.Goals.{then-customer-stripe+in_ok-extend_from_slice}
use Rattle.eve_stamps.proofs.opening.opening_rows.Goals.{else-customer-stripe}

pub loop-customer-preserved : goal.loop-customer-preserved
loop-customer-preserved c =
    let balances = c.args.balances.now in
    elim c.if-customer-stripe.branch [
      | then-customer-stripe+in_ok-extend_from_slice w ↦
          let more = opening_rows_with balances c.args.stripe c.loop-customer.customer w.if-customer-stripe.true in
          let saving = w.opening_row-saving.ensures in
          let checking = w.opening_row-checking.ensures in
          let pushed = w.in_ok-extend_from_slice.ensures.items in
          let first = w.saving.ensures in
          let second = w.checking.ensures in
          rw (w.rows-is, pushed, more, c.loop-customer.invariant, saving, checking, first, second) refl
      | else-customer-stripe w ↦
          let same = opening_rows_without balances c.args.stripe c.loop-customer.customer w.if-customer-stripe.false in
          rw (w.rows-is, same) c.loop-customer.invariant
    ]
