use Rattle.std.proofs.Common.{rules, ◌≡◌, ◌+◌, ◌-◌, ◌∷◌, [], ◌++◌, IsTrue, sym, ap, ◌∙◌, subst, arith}
use Rattle.std.proofs.lemmas.List.{length-map}
use Rattle.std.specs.Arc.{arc_value}
use Rattle.std.specs.List.{list_all}
use Rattle.eve_smallbank.specs.declared.versioned.Versioned.{Versioned}
use Rattle.eve_grammar.specs.Bodies.{transfer}
use Rattle.eve_grammar.specs.Limits.{is_step}
use Rattle.eve_grammar.specs.Trace.{Transfers}
use Rattle.eve_grammar.specs.declared.transfer.TransferData.{TransferData}
use Rattle.eve_stamps.specs.Stripes.{HaveRightVersions}
use Rattle.eve_attempts.specs.Ledgers.{ledger_rows}
use Rattle.eve_attempts.specs.Transfers as state
use Rattle.eve_write.specs.Data.{section}
use Rattle.eve_replica.specs.declared.server.Server.{Server}
use Rattle.eve_replica.specs.inner.RunInvariant.{GoesOn, commit_move, standing_of}
use Rattle.eve_replica.proofs.Steps.{transfer_goes}
use Rattle.eve_replica.proofs.StateLimits.{versions_right}
use Rattle.eve_replica.proofs.Endings.{where_well}
use Rattle.eve_replica.proofs.server.Server.apply_transfer_or_stay.Goals as goal

pub transfer-requires-clause-versions : goal.transfer-requires-clause-versions
transfer-requires-clause-versions c =
    subst (λ (x : TransferData). HaveRightVersions x.rows.items) (sym (c.deref-2.ensures ∙ c.in_ok-shared.ensures))
    (versions_right (ledger_rows c.args.self.now.replica.ledger) (transfer (arc_value c.args.state.now))
    c.requires.right)

pub returns-clause-on : goal.returns-clause-on
returns-clause-on c = λ token other.
    let given : TransferData = arc_value c.args.state.now in
    let x = transfer given in
    let old = c.args.self.now in
    let new : Server = record old {
      replica = c.transfer.new.self;
      missing = c.opened.result + old.missing - 1;
      steps = c.add_step.new.steps;
    } in
    let made : state.Transfers x old.replica.ledger new.replica.ledger =
    subst (λ (s : TransferData). state.Transfers (transfer s) old.replica.ledger new.replica.ledger)
    (c.deref-2.ensures ∙ c.in_ok-shared.ensures) c.in-Ok.ensures.transferred in
    let rows = ap ledger_rows made.changed ∙ length-map x.rows (λ (r : Versioned). r.value) ∙ made.many in
    let awaits : new.missing ≡ (standing_of old).opened - 1 = omega (arith, c.opened.ensures) in
    where_well _ _ (GoesOn (commit_move token) old new) c.add_step.result
    (λ right added. transfer_goes token x old new c.requires.live c.requires.live (c.requires.next other) awaits made
    c.in-Ok.ensures.whole
    (added ∙ ap (λ (s : TransferData). section old.steps ++ Transfers (transfer s) ∷ []) c.in_ok-shared.ensures)
    (λ h. right (subst (λ n. IsTrue (list_all (is_step n) (section old.steps))) (sym rows) h)))
    (c.add_step.ensures.right (ledger_rows new.replica.ledger) (search rules)) c.add_step.ensures.added
