use Rattle.std.proofs.Common.{ℕ, ◌/◌, ◌%◌, sym, ap, ◌∙◌, arith}
use Rattle.eve_evidence.proofs.RecordLookups.{opening_saving, opening_checking, no_opening}
use Rattle.eve_evidence.proofs.sources.opening_value.Goals as goal

pub returns-then-customer_count-number : goal.returns-then-customer_count-number
returns-then-customer_count-number c = no_opening c.args.trace.now c.args.row
    (omega (arith, c.customer_count.ensures, c.number-number.ensures.number, c.if-customer_count-number.true))

pub returns-then-number-eq0 : goal.returns-then-number-eq0
returns-then-number-eq0 c =
    c.saving.ensures
    ∙ opening_saving c.args.trace.now c.args.row _ _ (ap (λ (n : ℕ). n / 2) c.number-number.ensures.number)
    c.customer-customer.ensures.says (ap (λ (n : ℕ). n % 2) (sym c.number-number.ensures.number) ∙ c.if-number-eq0.true)

pub returns : goal.returns
returns c =
    c.checking.ensures
    ∙ opening_checking c.args.trace.now c.args.row _ _ (ap (λ (n : ℕ). n / 2) c.number-number.ensures.number)
    c.customer-customer.ensures.says
    (λ e. c.if-number-eq0.false (ap (λ (n : ℕ). n % 2) c.number-number.ensures.number ∙ e))
