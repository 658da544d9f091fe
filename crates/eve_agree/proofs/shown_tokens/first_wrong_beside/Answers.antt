use Rattle.std.proofs.Common.{◌≡◌, ◌+◌, ◌-◌, ◌<◌, ℕ, Option, Some, None, true, length, sym, ap, subst, ◌∙◌, arith}
use Rattle.std.specs.Prelude.{IsTrue}
use Rattle.std.specs.Option.{is_some}
use Rattle.std.proofs.lemmas.Bool.{false≢true}
use Rattle.eve_grammar.specs.Trace.{Trace}
use Rattle.eve_chains.specs.CommittedValues.{HaveSameBalances}
use Rattle.eve_agree.specs.inner.HashedRows.{balances_in}
use Rattle.eve_agree.specs.inner.NumbersJudged.{IsAfter}
use Rattle.eve_agree.specs.DueTokens.{IsDueIn, IsFirstWrong}
use Rattle.eve_agree.proofs.ByNumber.{not_there}
use Rattle.eve_agree.proofs.EqualBalances.{same_opening}
use Rattle.eve_agree.proofs.JoinedStretches.{one_more, wrong_first}
use Rattle.eve_agree.proofs.shown_tokens.first_wrong_beside.Goals as goal
use Rattle.eve_agree.proofs.shown_tokens.first_wrong_beside.Goals.{then-not-shown+in_ok-wrong+else-is_some}
use Rattle.eve_agree.proofs.shown_tokens.first_wrong_beside.Goals.{else-not-shown}

-- the first that was found is the first of all
found : (t : Trace) (e n last : ℕ) (o : Option ℕ) → n < last → is_some o ≡ true → IsFirstWrong t e 0 (n + 1) o
    → IsFirstWrong t e 0 last o
found t e n last None low some first = absurd (false≢true some)
found t e n last (Some at) low some first = wrong_first t e 0 (n + 1) last at (omega arith) first

-- none is wrong where one batch's is due
due_here : (t : Trace) (e n : ℕ) → IsDueIn t e (n + 1) → IsFirstWrong t e (n + 1 - 1) (n + 1) None
due_here t e n due m above below =
    let same : n + 1 ≡ m = omega arith in
    subst (IsDueIn t e) same due

pub loop-n-init : goal.loop-n-init
loop-n-init c = record {
  balances = c.requires.balances;
  others = c.requires.others;
  same = λ so. same_opening c.args.trace.now c.args.judged.history.now.replica c.args.peer.history.now.replica
      c.args.judged.settled.now c.args.peer.settled.now c.requires.judged.settled c.requires.peer.settled;
  due = λ n above below p at. absurd (omega arith);
}

pub is_shown-shown-requires-clause-before : goal.is_shown-shown-requires-clause-before
is_shown-shown-requires-clause-before c =
    let n = c.loop-n.n in
    let last : n ≡ n + 1 - 1 = omega arith in
    subst (λ (m : ℕ). IsTrue c.loop-n.same → HaveSameBalances c.args.judged.settled.now c.args.peer.settled.now m) last
    c.loop-n.invariant.same

pub returns-then-is_some : goal.returns-then-is_some
returns-then-is_some c =
    let t = c.args.trace.now in
    let e = c.args.judged.history.now.replica in
    found t e c.loop-n.n (length c.args.judged.settled.now.numbers) c.in_ok-wrong.wrong
    (omega (arith, c.loop-n-test.true))
    (sym c.is_some.ensures ∙ c.if-is_some.true)
    (one_more t e 0 c.loop-n.n c.in_ok-wrong.wrong (omega arith) c.loop-n.invariant.due c.in_ok-wrong.ensures.wrong)

pub loop-n-preserved : goal.loop-n-preserved
loop-n-preserved c =
    let t = c.args.trace.now in
    let e = c.args.judged.history.now.replica in
    let n = c.loop-n.n in
    let s = c.args.judged.settled.now in
    elim c.if-not-shown.branch [
      | then-not-shown+in_ok-wrong+else-is_some w ↦ record {
        balances = subst (IsAfter s (n + 1)) (sym (ap balances_in w.rows-is ∙ w.in_ok-wrong.ensures.same))
            c.advance.ensures.after;
        others = c.advance-in-loop-n.ensures;
        same = c.are_known_same-same.ensures;
        due = subst (IsFirstWrong t e 0 (n + 1))
            (not_there w.in_ok-wrong.wrong (sym w.is_some.ensures ∙ w.if-is_some.false))
            (one_more t e 0 n w.in_ok-wrong.wrong (omega arith) c.loop-n.invariant.due w.in_ok-wrong.ensures.wrong);
      }
      | else-not-shown w ↦ record {
        balances = subst (IsAfter s (n + 1)) (sym (ap balances_in w.rows-is)) c.advance.ensures.after;
        others = c.advance-in-loop-n.ensures;
        same = c.are_known_same-same.ensures;
        due = one_more t e 0 n None (omega arith) c.loop-n.invariant.due
            (due_here t e n (c.is_shown-shown.ensures.due w.if-not-shown.false));
      }
    ]
