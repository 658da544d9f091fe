use Rattle.std.proofs.Common.{◌+◌, ◌-◌, Some, None, subst, arith, ◌≡◌, sym}
use Rattle.eve_agree.proofs.AgreementFaults.{judged_start, all_agree, they_agree, none_stands, is_least, alone_agrees}
use Rattle.eve_agree.specs.inner.NumbersJudged.{AreAfter, JudgedTo}
use Rattle.eve_chains.specs.CommittedValues.{settlings}
use Rattle.eve_agree.proofs.agreement.equal_balances.Goals as goal

pub returns-then-is_alone-clause-agree : goal.returns-then-is_alone-clause-agree
returns-then-is_alone-clause-agree c =
    let t = c.args.trace.now in
    they_agree t (λ e n there. alone_agrees t c.args.histories.now c.requires.histories
    (c.is_alone.ensures.few c.if-is_alone.true) (c.is_alone.ensures.none c.if-is_alone.true)
    (λ i m at x is. c.numbers_are_reached.ensures.told_transfer t i m at x is) e n)

pub returns-then-is_alone-clause-none : goal.returns-then-is_alone-clause-none
returns-then-is_alone-clause-none c =
    let t = c.args.trace.now in
    none_stands t (they_agree t (λ e n there. alone_agrees t c.args.histories.now c.requires.histories
    (c.is_alone.ensures.few c.if-is_alone.true) (c.is_alone.ensures.none c.if-is_alone.true)
    (λ i m at x is. c.numbers_are_reached.ensures.told_transfer t i m at x is) e n))

pub loop-n-init : goal.loop-n-init
loop-n-init c =
    let t = c.args.trace.now in
    record {
      after = subst (λ settled. AreAfter settled 0 c.in_ok-all.all.items) c.requires.settled c.in_ok-all.ensures;
      judged = judged_start t;
    }

pub advance_all-requires-clause-before : goal.advance_all-requires-clause-before
advance_all-requires-clause-before c =
    let one_less : c.loop-n.n ≡ c.loop-n.n + 1 - 1 = omega arith in
    subst (λ settled. AreAfter settled (c.loop-n.n + 1 - 1) c.loop-n.all.items) (sym c.requires.settled)
    (subst (λ n. AreAfter (settlings c.args.trace.now) n c.loop-n.all.items) one_less c.loop-n.invariant.after)

pub judge_number-least-requires-clause-all : goal.judge_number-least-requires-clause-all
judge_number-least-requires-clause-all c =
    let t = c.args.trace.now in
    let right = c.recall_all_right.ensures t c.requires.histories in
    record {
      histories = c.requires.histories;
      committed = c.requires.settled;
      right = right;
      after = subst (λ items. AreAfter (settlings t) (c.loop-n.n + 1) items) (sym c.deref.ensures.value)
          (subst (λ settled. AreAfter settled (c.loop-n.n + 1) c.advance_all.new.all.items) c.requires.settled
          c.advance_all.ensures);
      values = λ e m. c.settled_values_are_the_banks.ensures t e m c.recall_limits.ensures (right e);
      states = λ e m at x is. c.states_are_the_balances.ensures t e m at x c.recall_limits.ensures (right e) is;
    }

pub judge_number-least-requires-clause-before : goal.judge_number-least-requires-clause-before
judge_number-least-requires-clause-before c =
    let one_less : c.loop-n.n ≡ c.loop-n.n + 1 - 1 = omega arith in
    subst (λ n. JudgedTo c.args.trace.now n c.loop-n.least) one_less c.loop-n.invariant.judged

pub returns-in-Some-clause-least : goal.returns-in-Some-clause-least
returns-in-Some-clause-least c =
    let t = c.args.trace.now in
    let right = c.recall_all_right.ensures t c.requires.histories in
    let known = subst (JudgedTo t c.loop-n.n) c.in-Some.is c.loop-n.invariant.judged in
    is_least t c.loop-n.n c.in-Some.fault known (all_agree t c.args.histories.now c.loop-n.n
    c.last_of_all-n-end.result (Some c.in-Some.fault) c.requires.histories right c.last_of_all-n-end.ensures
    (omega (arith, c.loop-n-test.false)) known)

pub returns-clause-agree : goal.returns-clause-agree
returns-clause-agree c =
    let t = c.args.trace.now in
    let right = c.recall_all_right.ensures t c.requires.histories in
    they_agree t (all_agree t c.args.histories.now c.loop-n.n c.last_of_all-n-end.result None c.requires.histories right
    c.last_of_all-n-end.ensures (omega (arith, c.loop-n-test.false))
    (subst (JudgedTo t c.loop-n.n) c.in-None.is c.loop-n.invariant.judged))

pub returns-clause-none : goal.returns-clause-none
returns-clause-none c =
    let t = c.args.trace.now in
    let right = c.recall_all_right.ensures t c.requires.histories in
    none_stands t
    (they_agree t (all_agree t c.args.histories.now c.loop-n.n c.last_of_all-n-end.result None c.requires.histories
    right c.last_of_all-n-end.ensures (omega (arith, c.loop-n-test.false))
    (subst (JudgedTo t c.loop-n.n) c.in-None.is c.loop-n.invariant.judged)))
