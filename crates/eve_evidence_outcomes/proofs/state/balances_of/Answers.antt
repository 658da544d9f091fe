use Rattle.std.proofs.Common.{◌≡◌, ℕ, sym, ap, subst, ◌∙◌, length, arith}
use Rattle.std.specs.Prelude.{IfOk}
use Rattle.eve_history.specs.SectionHistory.{section_history}
use Rattle.eve_chains.specs.Committed.{balances_to}
use Rattle.eve_chains.specs.CommittedValues.{Settling, settling}
use Rattle.eve_evidence_outcomes.proofs.FirstReplicas.{replica_is}
use Rattle.eve_evidence_outcomes.proofs.state.balances_of.Goals as goal

pub balances_to-requires-clause-section : goal.balances_to-requires-clause-section
balances_to-requires-clause-section c =
    let t = c.args.trace.now in
    let own = c.history_at-history.ensures in
    let same = replica_is t c.args.e c.history_at-history.result.now own in
    record {
      history = own ∙ ap (section_history t) (sym same);
      settled = c.settled_at.ensures ∙ ap (settling t) (sym same);
    }

pub balances_to-requires-clause-there : goal.balances_to-requires-clause-there
balances_to-requires-clause-there c =
    omega (arith, c.requires.number, ap (λ (x : Settling). length x.numbers) c.settled_at.ensures)

pub returns : goal.returns
returns c =
    let t = c.args.trace.now in
    subst (λ (k : ℕ). IfOk c.balances_to.result (λ b. b ≡ balances_to t k c.args.n))
    (replica_is t c.args.e c.history_at-history.result.now c.history_at-history.ensures) c.balances_to.ensures
