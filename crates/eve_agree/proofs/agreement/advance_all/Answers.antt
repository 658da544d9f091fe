use Rattle.std.proofs.Common.{◌<◌, length, refl, arith}
use Rattle.std.proofs.lemmas.Option.{slice_get_read}
use Rattle.eve_agree.proofs.AllBalances.{reached_start, reached_here, reached_more, reached_all}
use Rattle.eve_agree.proofs.agreement.advance_all.Goals as goal

pub loop-e-init : goal.loop-e-init
loop-e-init c = reached_start c.args.settled.now c.args.n c.args.all.now.items c.requires.before

pub advance-requires-clause-before : goal.advance-requires-clause-before
advance-requires-clause-before c =
    let got = slice_get_read c.args.settled.now (length c.args.settled.now) c.loop-e.e c.index-settled-e.result refl
    c.loop-e-test.true c.index-settled-e.is in
    let count = c.loop-e.invariant.as_many in
    let there : c.loop-e.e < length c.loop-e.all.items = omega (arith, c.loop-e-test.true) in
    reached_here c.args.settled.now c.args.n c.loop-e.e c.loop-e.all.items c.index-settled-e.result
    c.index_mut.result.now c.loop-e.invariant got c.index_mut.ensures.value there

pub loop-e-preserved : goal.loop-e-preserved
loop-e-preserved c =
    let got = slice_get_read c.args.settled.now (length c.args.settled.now) c.loop-e.e c.index-settled-e.result refl
    c.loop-e-test.true c.index-settled-e.is in
    reached_more c.args.settled.now c.args.n c.loop-e.e c.loop-e.all.items _ c.index-settled-e.result
    c.advance.new.balances c.loop-e.invariant c.loop-e-test.true got c.advance.ensures refl

pub returns : goal.returns
returns c = reached_all c.args.settled.now c.args.n c.loop-e.e c.loop-e.all.items c.loop-e-test.false c.loop-e.invariant
