use Rattle.std.proofs.Common.{rules, IsTrue, refl, sym, subst}
use Rattle.std.specs.List.{list_all}
use Rattle.eve_grammar.specs.Limits.{is_step}
use Rattle.eve_write.specs.Data.{batch, attempt, section}
use Rattle.eve_attempts.specs.Ledgers.{ledger_rows}
use Rattle.eve_replica.specs.inner.RunInvariant.{server_with}
use Rattle.eve_replica.proofs.Steps.{attempt_goes}
use Rattle.eve_replica.proofs.replica.Replica.add_attempt.Goals as goal

pub returns-in-Ok-clause-on : goal.returns-in-Ok-clause-on
returns-in-Ok-clause-on c =
    let made = c.in_ok-attempt.ensures.attempted in
    let steps = section c.args.steps.now in
    attempt_goes (batch c.args.mixed.now.batch) (attempt c.in_ok-attempt.attempt)
    (server_with c.args.self.now c.args.steps.now) (server_with c.close_noted.new.self c.add_step.new.steps)
    c.requires.due refl refl refl refl made c.in-Ok.ensures.added
    (λ h. c.in-Ok.ensures.right (ledger_rows c.close_noted.new.self.ledger) (search rules)
    (subst (λ n. IsTrue (list_all (is_step n) steps)) (sym made.1.1.closed.opens.as_many) h))
