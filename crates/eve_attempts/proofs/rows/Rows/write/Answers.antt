use Rattle.std.proofs.Common.{ap}
use Rattle.eve_token.specs.TokenRows.{TokenRows}
use Rattle.eve_attempts.specs.inner.KeptRows.{KeptRows}
use Rattle.eve_attempts.proofs.TableLaws.{write_held}
use Rattle.eve_attempts.proofs.rows.Rows.write.Goals as goal

pub returns-clause-table : goal.returns-clause-table
returns-clause-table c =
    write_held c.args.self.now.rows c.self.inside.versions.items c.self.inside.balances.balances c.set.new.self.balances
    c.args.entry.now c.number.result (ap (λ (k : KeptRows). k.rows) c.self.view_is) c.number.ensures.number
    c.self.invariant c.requires (ap (λ (t : TokenRows). t.balances) c.set.ensures)
