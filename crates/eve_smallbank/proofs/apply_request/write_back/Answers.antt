use Rattle.std.proofs.Common.{arith, length, length-set, drop, ◌+◌, ◌<◌, ◌∙◌, ap}
use Rattle.eve_smallbank.specs.inner.FromValues.{balances_after}
use Rattle.eve_smallbank.proofs.RequestBalances.{written_read, written_write}
use Rattle.eve_smallbank.proofs.apply_request.write_back.Goals as goal
use Rattle.eve_smallbank.proofs.apply_request.write_back.Goals.{in-Read, in-Write}

pub loop-place-preserved : goal.loop-place-preserved
loop-place-preserved c =
    let place = c.loop-place.place in
    elim c.match-effect.branch [
      | in-Read w ↦
          let room : c.loop-place.place < length c.args.rows.now = omega arith in
          let so = written_read c.loop-place.balances
          (balances_after c.args.balances.now c.args.rows.now c.args.effects.now) c.args.rows.now c.args.effects.now
          place c.at-effect.result
          room c.at-effect.ensures w.in-Read.is c.loop-place.invariant.1 in (
            ap length w.balances-is ∙ c.loop-place.invariant.0,
            ap (λ balances. balances_after balances (drop (place + 1) c.args.rows.now)
                (drop (place + 1) c.args.effects.now)) w.balances-is ∙ so,
          )
      | in-Write w ↦
          let so = written_write c.loop-place.balances
          (balances_after c.args.balances.now c.args.rows.now c.args.effects.now) c.args.rows.now c.args.effects.now
          place w.at.result c.at-effect.result
          w.at.ensures c.at-effect.ensures w.in-Write.is c.loop-place.invariant.1 in (
            ap length (w.balances-is ∙ w.set.ensures)
                ∙ length-set c.loop-place.balances w.at.result.0 c.at-effect.result.after ∙ c.loop-place.invariant.0,
            ap (λ balances. balances_after balances (drop (place + 1) c.args.rows.now)
                (drop (place + 1) c.args.effects.now)) (w.balances-is ∙ w.set.ensures) ∙ so,
          )
    ]
