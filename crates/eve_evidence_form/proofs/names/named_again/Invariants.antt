use Rattle.std.proofs.Common.{◌≡◌, take, map}
use Rattle.std.specs.Prelude.{Contains}
use Rattle.eve_grammar.specs.Spelling.{customers_at}
use Rattle.eve_views.specs.Form.{SomePlace}
use Rattle.eve_evidence_form.proofs.names.named_again.Given as goal

abbrev pub invariant-loop-i : goal.invariant-loop-i
invariant-loop-i l = ¬ SomePlace (take l.i (customers_at l.trace))
    (λ before c. (c.0 ≡ l.at) × Contains (map (λ d. d.1.name) before) c.1.name)
