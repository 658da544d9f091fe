use Rattle.std.proofs.Common.{◌≡◌, ℕ, List, take, sym, ap, subst, ◌∙◌, rules}
use Rattle.std.proofs.lemmas.Option.{same_Some}
use Rattle.eve_grammar.specs.Trace.{Customer}
use Rattle.eve_grammar.specs.Spelling.{customers_at}
use Rattle.eve_frames.specs.Decoded.{customer_decoded}
use Rattle.eve_evidence_form.specs.Names.{NoneNamed}
use Rattle.eve_evidence_form.proofs.names.named_before.Goals as goal

pub returns-in-Some-clause-again : goal.returns-in-Some-clause-again
returns-in-Some-clause-again c = λ d got.
    let own : ℕ × Customer = (c.customer-customer.result.offset, customer_decoded c.customer-customer.result) in
    let same : own ≡ d = same_Some own d (sym c.customer-customer.ensures.says ∙ got) in (
      ap (λ (x : ℕ × Customer). x.0) (sym same) ∙ sym c.offset.ensures ∙ (search rules),
      ap (λ (x : ℕ × Customer). x.1.name) (sym same) ∙ sym c.name-name.ensures,
      c.in-Some.ensures.first,
    )

pub returns-in-None-clause-none : goal.returns-in-None-clause-none
returns-in-None-clause-none c = λ d got at.
    let own : ℕ × Customer = (c.customer-customer.result.offset, customer_decoded c.customer-customer.result) in
    let same : own ≡ d = same_Some own d (sym c.customer-customer.ensures.says ∙ got) in
    subst (λ (name : List ℕ). NoneNamed name (take c.args.i (customers_at c.args.trace.now)))
    (c.name-name.ensures ∙ ap (λ (x : ℕ × Customer). x.1.name) same) c.in-None.ensures.none
