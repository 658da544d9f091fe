use Rattle.std.proofs.Common.{length, refl, arith}
use Rattle.std.proofs.lemmas.Option.{slice_get_read}
use Rattle.eve_agree.proofs.AllBalances.{openings_more, openings_all}
use Rattle.eve_agree.proofs.agreement.opening_of_each.Goals as goal

pub loop-each-preserved : goal.loop-each-preserved
loop-each-preserved c =
    let got = slice_get_read c.args.settled.now (length c.args.settled.now) c.loop-each.each-index c.each-item.result
    refl c.loop-each-test.true c.each-item.is in
    openings_more c.args.settled.now c.loop-each.each-index c.loop-each.all.items c.push.new.self.items
    c.each-item.result
    c.in_ok-balances.balances c.loop-each.invariant got c.in_ok-balances.ensures.rows
    c.in_ok-balances.ensures.values
    c.in_ok-push.ensures.items

pub returns : goal.returns
returns c = openings_all c.args.settled.now c.loop-each.each-index c.loop-each.all.items
    (omega (arith, c.loop-each-test.false, c.loop-each.auto.each-index-end)) c.loop-each.invariant
