use Rattle.std.proofs.Common.{ℕ, ◌/◌, refl, ap}
use Rattle.eve_evidence.proofs.PartsRead.{read_name}
use Rattle.eve_evidence.proofs.told.told_row.Goals as goal

pub returns-then-customer-customer_count : goal.returns-then-customer-customer_count
returns-then-customer-customer_count c = record {
  row_is = refl;
  name_is = read_name c.args.trace.now c.args.row _ _ _ (ap (λ (n : ℕ). n / 2) c.number-customer.ensures.number)
      c.customer.ensures.says c.name.ensures;
}
