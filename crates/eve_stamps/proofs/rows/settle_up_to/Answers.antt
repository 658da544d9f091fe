use Rattle.std.proofs.Common.{◌<◌, List, drop, length, refl, sym, subst}
use Rattle.eve_stamps.specs.declared.journal.Journaled.{Journaled}
use Rattle.eve_stamps.proofs.WrittenRows.{Settling, IsSettled, settling_more, settling_prefix, one_less, none_left}
use Rattle.eve_stamps.proofs.WrittenRows.{rest_is_after}
use Rattle.eve_stamps.proofs.rows.settle_up_to.Goals as goal

stopped : (c : goal.Then-tick-journaled) → IsSettled c.args.rows.now c.args.journal.now.items c.args.tick
    c.loop-journaled.rows c.loop-journaled.journal.items
stopped c =
    rest_is_after c.args.rows.now c.args.journal.now.items c.args.tick c.loop-journaled.rows
    c.loop-journaled.journal.items c.in-Some.journaled.now c.loop-journaled.invariant c.in-Some.ensures.item.3.0
    c.in-Some.ensures.lookup c.if-tick-journaled.true

ended : (c : goal.In_default) → IsSettled c.args.rows.now c.args.journal.now.items c.args.tick c.loop-journaled.rows
    c.loop-journaled.journal.items
ended c =
    none_left c.args.rows.now c.args.journal.now.items c.args.tick c.loop-journaled.rows
    c.loop-journaled.journal.items c.loop-journaled.invariant c.in_default.ensures.item.3

pub loop-journaled-init : goal.loop-journaled-init
loop-journaled-init c = record {
  rise = c.requires.rise;
  ticks = c.requires.ticks;
  own = c.requires.own;
  written = refl;
  kept = refl;
}

pub returns-then-tick-journaled-clause-rows : goal.returns-then-tick-journaled-clause-rows
returns-then-tick-journaled-clause-rows c = (stopped c).0

pub returns-then-tick-journaled-clause-journal : goal.returns-then-tick-journaled-clause-journal
returns-then-tick-journaled-clause-journal c = (stopped c).1

pub write-requires-clause-entries : goal.write-requires-clause-entries
write-requires-clause-entries c =
    (settling_prefix c.args.rows.now c.args.journal.now.items c.args.tick c.loop-journaled.rows
    c.loop-journaled.journal.items c.in-Some.journaled.now c.loop-journaled.invariant c.in-Some.ensures.item.3.0
    c.in-Some.ensures.lookup).own.0

pub loop-journaled-smaller : goal.loop-journaled-smaller
loop-journaled-smaller c =
    subst (λ (js : List Journaled). length js < length c.loop-journaled.journal.items) (sym c.pop_front.ensures.rest)
    (one_less c.loop-journaled.journal.items c.in-Some.ensures.item.3.0)

pub loop-journaled-preserved : goal.loop-journaled-preserved
loop-journaled-preserved c =
    subst (λ (js : List Journaled). Settling c.args.rows.now c.args.journal.now.items c.args.tick c.write.new.rows js)
    (sym c.pop_front.ensures.rest)
    (settling_more c.args.rows.now c.args.journal.now.items c.args.tick c.loop-journaled.rows c.write.new.rows
    c.in-Some.journaled.now (drop 1 c.loop-journaled.journal.items)
    (settling_prefix c.args.rows.now c.args.journal.now.items c.args.tick c.loop-journaled.rows
    c.loop-journaled.journal.items c.in-Some.journaled.now c.loop-journaled.invariant c.in-Some.ensures.item.3.0
    c.in-Some.ensures.lookup) c.if-tick-journaled.false c.write.ensures)

pub returns-clause-rows : goal.returns-clause-rows
returns-clause-rows c = (ended c).0

pub returns-clause-journal : goal.returns-clause-journal
returns-clause-journal c = (ended c).1
