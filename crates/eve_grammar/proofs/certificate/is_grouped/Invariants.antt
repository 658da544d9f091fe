use Rattle.std.proofs.Common.{◌≡◌, List, ℕ, drop}
use Rattle.eve_grammar.specs.Certificate.{is_grouped}
use Rattle.eve_grammar.specs.inner.Groups.{AreGroupNumbers}
use Rattle.eve_grammar.proofs.GroupOrder.{goes_on}
use Rattle.eve_grammar.proofs.certificate.is_grouped.Given as goal

abbrev pub invariant-loop-index : goal.invariant-loop-index
invariant-loop-index l =
    (sizes : List ℕ) → AreGroupNumbers sizes l.order l.groups → goes_on sizes l.last (drop l.index-index l.order)
    ≡ is_grouped sizes l.order
