use Rattle.std.proofs.Common.{◌≡◌, ℕ, ◌-◌, subst, inl, inr, arith}
use Rattle.std.proofs.lemmas.Bool.{cases_lt}
use Rattle.eve_agree.specs.inner.NumbersJudged.{AgreesIn}
use Rattle.eve_agree.proofs.AgreementFaults.{bound_low, judged_on, judged_apart}
use Rattle.eve_agree.proofs.AtNumber.{left_here}
use Rattle.eve_agree.proofs.EqualBalances.{all_have_same}
use Rattle.eve_agree.proofs.agreement.judge_number.Goals as goal

pub wrong_in-requires-clause-there : goal.wrong_in-requires-clause-there
wrong_in-requires-clause-there c =
    let t = c.args.trace.now in
    let low = bound_low t (c.args.n - 1) c.args.least c.requires.before in
    let left = left_here t c.args.histories.now c.args.least c.requires.all.histories in
    omega (arith, c.loop-e-test.true)

pub wrong_in-requires-clause-before : goal.wrong_in-requires-clause-before
wrong_in-requires-clause-before c =
    let t = c.args.trace.now in
    let known = c.requires.all in
    let left = left_here t c.args.histories.now c.args.least known.histories in
    all_have_same t known.values known.states (c.args.n - 1) c.loop-e.e c.args.least c.requires.before
    (omega (arith, c.loop-e-test.true))

pub loop-e-preserved : goal.loop-e-preserved
loop-e-preserved c = λ i lt. elim (cases_lt i c.loop-e.e) [
  | inl early ↦ c.loop-e.invariant i early
  | inr late ↦
      let same : c.loop-e.e ≡ i = omega arith in
      subst (λ (k : ℕ). AgreesIn c.args.trace.now k c.args.n) same c.in_default.ensures.agrees
]

pub returns-in-Some : goal.returns-in-Some
returns-in-Some c =
    let t = c.args.trace.now in
    let left = left_here t c.args.histories.now c.args.least c.requires.all.histories in
    judged_apart t c.args.n c.loop-e.e c.args.least c.in-Some.fault c.requires.before
    (omega (arith, c.loop-e-test.true)) c.loop-e.invariant c.in-Some.ensures.apart

pub returns : goal.returns
returns c =
    let t = c.args.trace.now in
    let left = left_here t c.args.histories.now c.args.least c.requires.all.histories in
    judged_on t c.args.n c.args.least c.requires.before
    (λ i lt. c.loop-e.invariant i (omega (arith, c.loop-e-test.false)))
