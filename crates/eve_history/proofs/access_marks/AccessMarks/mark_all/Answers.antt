use Rattle.std.proofs.Common.{ℕ, ◌<◌, ◌≤◌, Some, length, take, sym, subst, arith}
use Rattle.std.proofs.lemmas.List.{length-take-le}
use Rattle.eve_grammar.specs.Trace.{Access}
use Rattle.eve_grammar.proofs.Lists.{all-slice_get}
use Rattle.eve_frames.specs.Views.{access_in}
use Rattle.eve_history.specs.inner.MarkedRecords.{AreMarkedIfRight}
use Rattle.eve_history.proofs.MarkedRecords.{marking_start, marking_more, marking_wrong, marking_end}
use Rattle.eve_history.proofs.access_marks.AccessMarks.mark_all.Goals as goal

pub loop-i-init : goal.loop-i-init
loop-i-init c = marking_start c.args.workers c.args.count c.args.accesses.now c.args.self.now c.requires.none

pub mark-requires-clause-marked : goal.mark-requires-clause-marked
mark-requires-clause-marked c = (
  take c.loop-i.i c.args.accesses.now,
  c.loop-i.invariant.marked,
  (let lt : c.loop-i.i < length c.args.accesses.now = omega arith in
      let few : length c.args.accesses.now ≤ 256 = c.requires.few in
      omega (arith, length-take-le c.loop-i.i c.args.accesses.now (omega arith))),
)

pub mark-requires-clause-small : goal.mark-requires-clause-small
mark-requires-clause-small c =
    all-slice_get _ c.args.accesses.now c.loop-i.i
    (c.get-access.result.offset, access_in c.get-access.result.bytes.now) c.requires.small c.get-access.ensures.says

pub returns-in-Some : goal.returns-in-Some
returns-in-Some c =
    let xs = c.args.accesses.now in
    let x : ℕ × Access = (c.get-access.result.offset, access_in c.get-access.result.bytes.now) in
    let judged = c.in-Some.ensures (take c.loop-i.i xs) c.loop-i.invariant.marked in
    subst (λ (o : ℕ). AreMarkedIfRight c.args.workers c.args.count xs
    (Some (record { code = c.in-Some.code; offset = o }))
    c.mark.new.self) (sym c.offset.ensures)
    (marking_wrong c.args.workers c.args.count xs c.loop-i.i c.loop-i.self c.mark.new.self x c.in-Some.code
    c.loop-i.invariant c.get-access.ensures.says judged)

pub loop-i-preserved : goal.loop-i-preserved
loop-i-preserved c =
    let xs = c.args.accesses.now in
    let x : ℕ × Access = (c.get-access.result.offset, access_in c.get-access.result.bytes.now) in
    let judged = c.in_default.ensures (take c.loop-i.i xs) c.loop-i.invariant.marked in
    marking_more c.args.workers c.args.count xs c.loop-i.i c.loop-i.self c.mark.new.self x c.loop-i.invariant
    c.get-access.ensures.says judged

pub returns : goal.returns
returns c = marking_end c.args.workers c.args.count c.args.accesses.now c.loop-i.i c.loop-i.self c.loop-i.invariant
    (omega arith)
