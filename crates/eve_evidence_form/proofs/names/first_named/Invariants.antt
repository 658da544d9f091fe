use Rattle.std.proofs.Common.{take}
use Rattle.eve_grammar.specs.Spelling.{customers_at}
use Rattle.eve_evidence_form.specs.Names.{NoneNamed}
use Rattle.eve_evidence_form.proofs.names.first_named.Given as goal

abbrev pub invariant-loop-i : goal.invariant-loop-i
invariant-loop-i l = NoneNamed l.name (take l.i (customers_at l.trace))
