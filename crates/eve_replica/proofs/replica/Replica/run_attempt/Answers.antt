use Rattle.std.proofs.Common.{rules, ℕ, Bool, IfOk, sym, subst}
use Rattle.eve_write.specs.Data.{batch, attempt}
use Rattle.eve_replica.specs.Replicas.{Replica, Attempts}
use Rattle.eve_replica.proofs.replica.Replica.run_attempt.Goals as goal

pub returns-in-Ok-run_batches-clause-attempted : goal.returns-in-Ok-run_batches-clause-attempted
returns-in-Ok-run_batches-clause-attempted g c =
    let old : Replica = c.args.self.now in
    let Made : Replica → ℕ → Bool → Type 0 = λ r view serial. IfOk c.close_noted.result
    (λ a. Attempts view serial r c.close_noted.new.self (batch c.args.batch.now) (attempt a)) in
    subst (λ (v : ℕ). Made old v c.args.serial) (sym c.requires.view)
    (subst (λ (s : Bool). Made old old.ledger.view s) (sym c.requires.serial)
    (subst (λ (r : Replica). Made r r.ledger.view r.ledger.is_next_serial) c.self.view_is
    c.close_noted.ensures.attempted))

pub close_noted-requires-clause-due : goal.close_noted-requires-clause-due
close_noted-requires-clause-due g c = search rules
