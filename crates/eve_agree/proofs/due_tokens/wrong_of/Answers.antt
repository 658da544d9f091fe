use Rattle.std.proofs.Common.{◌≡◌, ◌-◌, ℕ, Some, sym, subst, ◌∙◌}
use Rattle.std.proofs.lemmas.Bool.{false≢true}
use Rattle.eve_grammar.specs.declared.head.Head.{Head}
use Rattle.eve_frames.specs.Views.{attempt_in}
use Rattle.eve_token.specs.Token.{token_of}
use Rattle.eve_agree.specs.inner.HashedRows.{balances_in}
use Rattle.eve_agree.specs.DueTokens.{IsFirstWrong}
use Rattle.eve_agree.proofs.JoinedStretches.{one_judged}
use Rattle.eve_agree.proofs.due_tokens.wrong_of.Goals as goal

pub returns-then-is_due-clause-wrong : goal.returns-then-is_due-clause-wrong
returns-then-is_due-clause-wrong c =
    let t = c.args.trace.now in
    let e = c.args.history.now.replica in
    let v = c.committed_attempt-attempt.result in
    let decoded = attempt_in v.bytes.now in
    let right = c.recall_right.ensures.section t e c.requires.section.history in
    (one_judged t e c.args.n v.offset decoded c.args.history.now c.args.settled.now (balances_in c.args.rows.now)
    c.requires.section.history c.requires.section.settled right
    (λ m. c.settled_values_are_the_banks.ensures t e m c.recall_limits.ensures right)
    c.requires.one c.committed_attempt-attempt.ensures c.requires.after).0
    (subst (λ (h : Head). decoded.token ≡ token_of h.version decoded.seq (balances_in c.args.rows.now) decoded.replies)
    c.head.ensures (c.is_due.ensures.due.0 c.if-is_due.true))

pub returns-clause-wrong : goal.returns-clause-wrong
returns-clause-wrong c =
    let t = c.args.trace.now in
    let e = c.args.history.now.replica in
    let v = c.committed_attempt-attempt.result in
    let decoded = attempt_in v.bytes.now in
    let right = c.recall_right.ensures.section t e c.requires.section.history in
    subst (λ (o : ℕ). IsFirstWrong t e (c.args.n - 1) c.args.n (Some o)) (sym c.offset.ensures)
    ((one_judged t e c.args.n v.offset decoded c.args.history.now c.args.settled.now
    (balances_in c.args.rows.now) c.requires.section.history c.requires.section.settled right
    (λ m. c.settled_values_are_the_banks.ensures t e m c.recall_limits.ensures right) c.requires.one
    c.committed_attempt-attempt.ensures c.requires.after).1
    (λ is. false≢true (sym c.if-is_due.false ∙ c.is_due.ensures.due.1
    (subst (λ (h : Head). decoded.token ≡ token_of h.version decoded.seq (balances_in c.args.rows.now) decoded.replies)
    (sym c.head.ensures) is))))
