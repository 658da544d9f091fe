use Rattle.std.proofs.Common.{sym, ◌∙◌, ◌+◌, ap, arith, drop, ◌≡◌, []}
use Rattle.std.proofs.lemmas.List.{drop_all}
use Rattle.eve_grammar.proofs.Scans.{is_rising_from, rising_from_zero}
use Rattle.eve_write.proofs.RisingRestores.{rising_more, rising_ends}
use Rattle.eve_write.proofs.rollback.is_rising.Goals as goal

pub loop-restore-init : goal.loop-restore-init
loop-restore-init c = rising_from_zero c.args.restores.now

pub returns-then-row-least : goal.returns-then-row-least
returns-then-row-least c =
    rising_ends c.loop-restore.least c.loop-restore.restore-index c.args.restores.now c.restore-item.result _
    c.loop-restore-test.true c.restore-item.is c.loop-restore.invariant (omega (arith, c.number-row.ensures.number))

pub loop-restore-preserved : goal.loop-restore-preserved
loop-restore-preserved c =
    let more = rising_more c.loop-restore.least c.loop-restore.restore-index c.args.restores.now c.restore-item.result _
    c.loop-restore-test.true c.restore-item.is c.loop-restore.invariant (omega (arith, c.number-row.ensures.number))
    in
    ap (λ k. is_rising_from (k + 1) (drop (c.loop-restore.restore-index + 1) c.args.restores.now))
    c.number-row.ensures.number ∙ more

pub returns : goal.returns
returns c =
    let none : drop c.loop-restore.restore-index c.args.restores.now ≡ [] =
    drop_all c.loop-restore.restore-index c.args.restores.now c.loop-restore-test.false in
    sym (ap (λ xs. is_rising_from c.loop-restore.least xs) none) ∙ c.loop-restore.invariant
