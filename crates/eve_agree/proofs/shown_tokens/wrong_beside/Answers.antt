use Rattle.std.proofs.Common.{IsTrue, sym, subst, ◌∙◌, arith}
use Rattle.eve_grammar.specs.Trace.{head_of}
use Rattle.eve_grammar.specs.declared.head.Head.{Head}
use Rattle.eve_agree.specs.inner.HashedRows.{can_hash}
use Rattle.eve_agree.specs.inner.NumbersJudged.{IsAfter}
use Rattle.eve_agree.proofs.JoinedStretches.{some_rows, none_judged}
use Rattle.eve_agree.proofs.shown_tokens.wrong_beside.Goals as goal

pub returns-then-not-has_committed-clause-wrong : goal.returns-then-not-has_committed-clause-wrong
returns-then-not-has_committed-clause-wrong c =
    none_judged c.args.trace.now c.args.history.now.replica c.args.n c.args.history.now c.requires.section.history
    (sym c.has_committed.ensures ∙ c.if-not-has_committed.true)

pub grow-requires : goal.grow-requires
grow-requires c =
    let t = c.args.trace.now in
    let some = some_rows t c.args.history.now.replica c.args.settled.now c.requires.section.settled
    (c.right_heads_have_limits.ensures.limits (head_of t) c.recall_limits.ensures.head).some_customers in
    let long = c.requires.after.rows in
    omega arith

pub wrong_of-requires-clause-after : goal.wrong_of-requires-clause-after
wrong_of-requires-clause-after c =
    subst (IsAfter c.args.settled.now c.args.n) (sym c.in_ok-grow.ensures.same) c.requires.after

pub wrong_of-requires-clause-can : goal.wrong_of-requires-clause-can
wrong_of-requires-clause-can c =
    subst (λ (h : Head). IsTrue (can_hash h.version c.grow.new.self)) c.head.ensures c.in_ok-grow.ensures.can
