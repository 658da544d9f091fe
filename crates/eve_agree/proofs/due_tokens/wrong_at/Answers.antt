use Rattle.std.proofs.Common.{sym, ◌∙◌}
use Rattle.eve_agree.proofs.JoinedStretches.{none_judged}
use Rattle.eve_agree.proofs.due_tokens.wrong_at.Goals as goal

pub returns-then-not-has_committed-clause-wrong : goal.returns-then-not-has_committed-clause-wrong
returns-then-not-has_committed-clause-wrong c =
    none_judged c.args.trace.now c.args.history.now.replica c.args.n c.args.history.now c.requires.section.history
    (sym c.has_committed.ensures ∙ c.if-not-has_committed.true)
