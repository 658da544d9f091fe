use Rattle.std.proofs.Common.{◌≡◌, false, sym, ap, subst}
use Rattle.eve_attempts.specs.declared.prefix.AttemptHead.{AttemptHead}
use Rattle.eve_write.specs.Data.{attempt, batch}
use Rattle.eve_replica.specs.Replicas.{ClosesThese, Replica, attempt_head_of}
use Rattle.eve_replica.proofs.replica.Replica.close_attempt.Goals as goal

pub returns-in-Ok-close-clause-closed : goal.returns-in-Ok-close-clause-closed
returns-in-Ok-close-clause-closed c =
    let now = ap (λ (r : Replica). r.is_broken) c.self.view_is in
    let old : Replica = c.args.self.now in
    let whole : old.is_broken ≡ false = cc in
    let head : Path AttemptHead (record { seq = c.args.seq; view = c.args.view; serial = c.args.serial })
    (attempt_head_of old.ledger old.ledger.view old.ledger.is_next_serial) =
    λ k. record { seq = c.requires.seq k; view = c.requires.view k; serial = c.requires.serial k } in (
      whole,
      subst (λ (h : AttemptHead). ClosesThese h old c.close.new.self (batch c.args.batch.now) c.args.records.now
          (attempt c.in-Ok-close.attempt)) (sym head) c.in-Ok-close.ensures.closed,
    )

pub returns-in_default-clause-broken : goal.returns-in_default-clause-broken
returns-in_default-clause-broken c =
    let now = ap (λ (r : Replica). r.is_broken) c.self.view_is in (λ same. cc, λ broken. cc)

pub returns-in-Ok-close-clause-broken : goal.returns-in-Ok-close-clause-broken
returns-in-Ok-close-clause-broken c =
    let now = ap (λ (r : Replica). r.is_broken) c.self.view_is in (λ same. cc, λ broken. cc)

pub returns-in-Err-Memory-clause-broken : goal.returns-in-Err-Memory-clause-broken
returns-in-Err-Memory-clause-broken c =
    let now = ap (λ (r : Replica). r.is_broken) c.self.view_is in (λ same. cc, λ broken. cc)

pub returns-clause-broken : goal.returns-clause-broken
returns-clause-broken c =
    let now = ap (λ (r : Replica). r.is_broken) c.self.view_is in (λ same. cc, λ broken. cc)
