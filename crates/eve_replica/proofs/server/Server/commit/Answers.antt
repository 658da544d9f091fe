use Rattle.std.proofs.Common.{rules, IsTrue, refl, sym, ap, subst}
use Rattle.std.specs.List.{list_all}
use Rattle.std.proofs.lemmas.Result.{on_ok_weaker}
use Rattle.eve_grammar.specs.Limits.{is_step}
use Rattle.eve_attempts.specs.Ledgers.{ledger_rows}
use Rattle.eve_write.specs.Data.{commit, section}
use Rattle.eve_replica.specs.declared.server.Server.{Server}
use Rattle.eve_replica.specs.inner.RunInvariant.{CommitsNext, GoesOn, commit_move}
use Rattle.eve_replica.proofs.Steps.{commit_goes, commits_next}
use Rattle.eve_replica.proofs.Endings.{where_well}
use Rattle.eve_replica.proofs.server.Server.commit.Goals as goal

pub returns-clause-on : goal.returns-clause-on
returns-clause-on c =
    let made = c.in-Ok.ensures.committed in
    let d = commit c.in-Ok.commit in
    let old = c.args.self.now in
    let new : Server = record old { replica = c.commit.new.self; steps = c.add_step.new.steps } in
    where_well _ _ (GoesOn (commit_move c.args.token) old new) c.add_step.result
    (λ right added. commit_goes c.args.token d old new c.requires.has refl refl made added
    (λ h. right (subst (λ n. IsTrue (list_all (is_step n) (section old.steps))) (sym (ap ledger_rows made.1.changed))
    h)))
    (c.add_step.ensures.right (ledger_rows new.replica.ledger) (search rules)) c.add_step.ensures.added

pub returns-clause-committed : goal.returns-clause-committed
returns-clause-committed c =
    let made = c.in-Ok.ensures.committed in
    let old = c.args.self.now in
    let new : Server = record old { replica = c.commit.new.self; steps = c.add_step.new.steps } in
    on_ok_weaker {Q = CommitsNext old new} c.add_step.result
    (λ added. commits_next (commit c.in-Ok.commit) old new made.1 added) c.add_step.ensures.added
