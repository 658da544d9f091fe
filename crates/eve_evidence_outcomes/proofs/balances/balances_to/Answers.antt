use Rattle.eve_evidence_outcomes.proofs.Tokens.{read_balances}
use Rattle.eve_evidence_outcomes.proofs.balances.balances_to.Goals as goal

pub returns : goal.returns
returns c =
    let t = c.args.trace.now in
    let e = c.args.history.now.replica in
    read_balances t e c.args.n c.args.settled.now c.balances_after.result c.requires.section.settled
    (c.settled_values_are_the_banks.ensures t e c.args.n c.recall_limits.ensures
    (c.recall_right.ensures.section t e c.requires.section.history)) c.balances_after.ensures.rows
    c.balances_after.ensures.values
