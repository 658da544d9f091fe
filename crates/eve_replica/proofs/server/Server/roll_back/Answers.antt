use Rattle.std.proofs.Common.{rules, ◌≡◌, true, false, IsTrue, refl, sym, subst, arith}
use Rattle.std.specs.List.{list_all}
use Rattle.eve_grammar.specs.Limits.{is_step}
use Rattle.eve_attempts.specs.Ledgers.{ledger_rows}
use Rattle.eve_write.specs.Data.{rollback, section}
use Rattle.eve_replica.specs.declared.server.Server.{Server}
use Rattle.eve_replica.specs.inner.RunInvariant.{GoesOn, GivesUpNext, rollback_move}
use Rattle.eve_replica.proofs.Steps.{rests, rollback_goes, rollback_gives_up, stopped_gives_up}
use Rattle.std.proofs.lemmas.Result.{on_ok_weaker}
use Rattle.eve_replica.proofs.Endings.{where_well}
use Rattle.eve_replica.proofs.server.Server.roll_back.Goals as goal

pub returns-clause-on : goal.returns-clause-on
returns-clause-on c =
    let made = c.in_ok-rollback.ensures.rolled_back in
    let r = rollback c.in_ok-rollback.rollback in
    let old = c.args.self.now in
    let new : Server = record old { replica = c.rollback.new.self; missing = 0; steps = c.add_step.new.steps } in
    let live : old.is_live ≡ true = search rules in
    where_well _ _ (GoesOn rollback_move old new) c.add_step.result
    (λ right added. rollback_goes r old new live live (c.requires.awaits live) c.requires.missing refl made
    c.in_ok-rollback.ensures.whole added
    (λ h. right (subst (λ n. IsTrue (list_all (is_step n) (section old.steps))) (sym made.as_many) h)))
    (c.add_step.ensures.right (ledger_rows new.replica.ledger) (search rules)) c.add_step.ensures.added

pub returns-clause-given_up : goal.returns-clause-given_up
returns-clause-given_up c = λ p.
    let old = c.args.self.now in
    let new : Server = record old { replica = c.rollback.new.self; missing = 0; steps = c.add_step.new.steps } in
    let live : old.is_live ≡ true = search rules in
    on_ok_weaker {Q = GivesUpNext p old new} c.add_step.result
    (λ added. rollback_gives_up (rollback c.in_ok-rollback.rollback) p old new live c.in_ok-rollback.ensures.rolled_back
    added) c.add_step.ensures.added

pub returns-then-not-self-clause-on : goal.returns-then-not-self-clause-on
returns-then-not-self-clause-on c =
    rests rollback_move c.args.self.now (λ at. omega arith) (λ at. omega arith) (search rules)

pub returns-then-not-self-clause-given_up : goal.returns-then-not-self-clause-given_up
returns-then-not-self-clause-given_up c = λ p.
    let stopped : c.args.self.now.is_live ≡ false = search rules in stopped_gives_up p c.args.self.now stopped
