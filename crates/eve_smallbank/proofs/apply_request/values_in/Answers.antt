use Rattle.std.proofs.Common.{length, length-set, arith, ◌<◌, ◌∙◌}
use Rattle.eve_smallbank.proofs.RequestBalances.{seen_more}
use Rattle.eve_smallbank.proofs.apply_request.values_in.Goals as goal

pub loop-place-preserved : goal.loop-place-preserved
loop-place-preserved c = (
  length-set c.loop-place.values c.loop-place.place c.get.result ∙ c.loop-place.invariant.0,
  (let room : c.loop-place.place < length c.loop-place.values = omega arith in
      seen_more c.loop-place.values c.args.balances.now c.args.rows.now c.loop-place.place c.at.result c.get.result room
      c.at.ensures c.get.ensures c.loop-place.invariant.1),
)
