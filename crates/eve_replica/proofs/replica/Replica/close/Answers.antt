use Rattle.std.proofs.Common.{List, ap, subst}
use Rattle.eve_smallbank.specs.declared.rows.Touched.{Touched}
use Rattle.eve_write.specs.Data.{batch, attempt}
use Rattle.eve_attempts.specs.declared.prefix.AttemptHead.{AttemptHead}
use Rattle.eve_attempts.specs.ClosedAttempts.{AreMismatched, Closes, touched_in_batch}
use Rattle.eve_replica.specs.Replicas.{Replica}
use Rattle.eve_replica.proofs.replica.Replica.close.Goals as goal

pub returns-in-Ok-clause-closed : goal.returns-in-Ok-clause-closed
returns-in-Ok-clause-closed c =
    let old : Replica = c.args.self.now in
    let b = batch c.args.batch.now in
    let head : AttemptHead = c.next_prefix-prefix.result in
    let Made : AttemptHead → Replica → List Touched → Type 0 = λ h r touched.
    Closes h r.ledger c.close.new.self b touched c.args.records.now (attempt c.in-Ok.attempt) in
    record {
      closed = subst (λ (h : AttemptHead). Made h old (touched_in_batch old.names b)) c.next_prefix-prefix.ensures
          (subst (λ (touched : List Touched). Made head old touched) c.requires.due.reached
          (subst (λ (r : Replica). Made head r c.args.touched.now) c.self.view_is c.in-Ok.ensures.closed));
      rest = ap (λ (r : Replica). record r { ledger = c.close.new.self }) c.self.view_is;
    }

pub returns-in-Err-clause-mismatch : goal.returns-in-Err-clause-mismatch
returns-in-Err-clause-mismatch c = λ same.
    let old : Replica = c.args.self.now in
    let b = batch c.args.batch.now in
    let head : AttemptHead = c.next_prefix-prefix.result in
    let Not : AttemptHead → Replica → List Touched → Type 0 = λ h r touched.
    AreMismatched h r.ledger b touched c.args.records.now in
    subst (λ (h : AttemptHead). Not h old (touched_in_batch old.names b)) c.next_prefix-prefix.ensures
    (subst (λ (touched : List Touched). Not head old touched) c.requires.due.reached
    (subst (λ (r : Replica). Not head r c.args.touched.now) c.self.view_is (c.in-Err.ensures.mismatch same)))
