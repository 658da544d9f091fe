use Rattle.std.proofs.Common.{◌≡◌, drop}
use Rattle.eve_grammar.specs.Certificate.{counts_from}
use Rattle.eve_grammar.proofs.certificate.is_listed.Given as goal

abbrev pub invariant-loop-place : goal.invariant-loop-place
invariant-loop-place l = counts_from l.place (drop l.place l.order) ≡ counts_from 0 l.order
