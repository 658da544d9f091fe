use Rattle.std.proofs.Common.{◌+◌, length, ap, ◌∙◌}
use Rattle.eve_replica.specs.Replicas.{Replica}
use Rattle.eve_replica.proofs.replica.Replica.next_prefix.Goals as goal

pub returns : goal.returns
returns c = λ k. record {
  seq = (c.next_number.ensures
      ∙ ap (λ (r : Replica). r.ledger.committed + 1 + length r.ledger.opened) c.self.view_is) k;
  view = (c.view.ensures ∙ ap (λ (r : Replica). r.ledger.view) c.self.view_is) k;
  serial = (c.is_next_serial.ensures ∙ ap (λ (r : Replica). r.ledger.is_next_serial) c.self.view_is) k;
}
