use Rattle.std.proofs.Common.{ap, arith, ◌+◌, ◌∙◌}
use Rattle.eve_workload.specs.inner.GroupSets.{has}
use Rattle.eve_workload.proofs.WordBits.{lowest_unset, set_below, set_past}
use Rattle.eve_workload.proofs.group_set.GroupSet.first_absent.Goals as goal

pub returns-then-word-clause-absent : goal.returns-then-word-clause-absent
returns-then-word-clause-absent c =
    ap (λ t. has c.args.self.now (c.loop-place.before + t)) c.trailing_ones.ensures
    ∙ lowest_unset c.args.self.now.words c.loop-place.place c.loop-place.before c.loop-place.invariant.0
    c.loop-place.invariant.1
    (omega arith) c.if-word.true

pub returns-then-word-clause-before : goal.returns-then-word-clause-before
returns-then-word-clause-before c group below =
    set_below c.args.self.now.words c.loop-place.place c.loop-place.before c.loop-place.invariant.0
    c.loop-place.invariant.1
    (omega arith) c.if-word.true group (omega (arith, c.trailing_ones.ensures))

pub loop-place-preserved : goal.loop-place-preserved
loop-place-preserved c = (
  omega arith,
  set_past c.args.self.now.words c.loop-place.place c.loop-place.before c.loop-place.invariant.0
      c.loop-place.invariant.1 c.if-word.false,
)
