use Rattle.std.proofs.Common.{◌≡◌, length, ap, ◌∙◌, rules}
use Rattle.eve_smallbank.specs.Access.{balance_of_row}
use Rattle.eve_chains.specs.CommittedValues.{Settling, values_in}
use Rattle.eve_chains.proofs.BankSteps.{values_opening, banks_are}
use Rattle.eve_chains.proofs.settled.Settled.balances_after.Goals as goal

pub loop-before-init : goal.loop-before-init
loop-before-init c =
    let same : c.in_ok-balances.balances ≡ c.args.self.now.opening = c.in_ok-balances.ensures
    ∙ ap (λ (s : Settling). s.opening) c.self.view_is in
    record {
      rows = ap length same;
      values = ap balance_of_row same ∙ values_opening c.args.self.now;
    }

pub returns-clause-bank : goal.returns-clause-bank
returns-clause-bank c =
    let last : c.loop-before.before ≡ c.args.n = search rules in
    banks_are c.args.self.now c.args.n c.loop-before.balances
    (c.loop-before.invariant.values ∙ ap (values_in c.args.self.now) last)
