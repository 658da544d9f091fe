use Rattle.std.proofs.Common.{◌-◌, refl, ap}
use Rattle.eve_smallbank.specs.Access.{balance_of_row}
use Rattle.eve_chains.specs.Changes.{changes_in_ranges}
use Rattle.eve_chains.specs.ReachedChanges.{values_decoded}
use Rattle.eve_chains.specs.CommittedValues.{Wrote, TransferredValues, Nothing}
use Rattle.eve_chains.proofs.BankSteps.{values_then, banks_are}
use Rattle.eve_chains.proofs.settled.Settled.advance.Goals as goal

pub returns-in-Wrote-clause-values : goal.returns-in-Wrote-clause-values
returns-in-Wrote-clause-values g c =
    values_then c.args.self.now c.args.n (Wrote (changes_in_ranges (c.args.n - 1) c.in-Wrote.ranges.now))
    (balance_of_row (g.T.SetRow.rows c.args.rows.now)) (balance_of_row (g.T.SetRow.rows c.set_all.new.rows))
    c.requires.one c.in-Wrote.ensures.says c.requires.before c.set_all.ensures.values

pub returns-in-Wrote-clause-bank : goal.returns-in-Wrote-clause-bank
returns-in-Wrote-clause-bank g c =
    banks_are c.args.self.now c.args.n (g.T.SetRow.rows c.set_all.new.rows) (returns-in-Wrote-clause-values g c)

pub returns-in-Transferred-clause-values : goal.returns-in-Transferred-clause-values
returns-in-Transferred-clause-values g c =
    values_then c.args.self.now c.args.n (TransferredValues (values_decoded c.in-Transferred.state))
    (balance_of_row (g.T.SetRow.rows c.args.rows.now)) (balance_of_row (g.T.SetRow.rows c.apply_transfer.new.rows))
    c.requires.one c.in-Transferred.ensures.says c.requires.before (ap balance_of_row c.apply_transfer.ensures)

pub returns-in-Transferred-clause-bank : goal.returns-in-Transferred-clause-bank
returns-in-Transferred-clause-bank g c =
    banks_are c.args.self.now c.args.n (g.T.SetRow.rows c.apply_transfer.new.rows)
    (returns-in-Transferred-clause-values g c)

pub returns-in-Nothing-clause-values : goal.returns-in-Nothing-clause-values
returns-in-Nothing-clause-values g c =
    values_then c.args.self.now c.args.n Nothing (balance_of_row (g.T.SetRow.rows c.args.rows.now))
    (balance_of_row (g.T.SetRow.rows c.args.rows.now)) c.requires.one c.in-Nothing.ensures.says c.requires.before refl

pub returns-in-Nothing-clause-bank : goal.returns-in-Nothing-clause-bank
returns-in-Nothing-clause-bank g c =
    banks_are c.args.self.now c.args.n (g.T.SetRow.rows c.args.rows.now) (returns-in-Nothing-clause-values g c)
