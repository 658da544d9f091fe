use Rattle.std.proofs.Common.{◌≡◌, length}
use Rattle.eve_agree.specs.inner.Stretches.{IsComingStretch, AreReadyStretches}
use Rattle.eve_agree.proofs.due_tokens.cut.Given as goal

abbrev pub invariant-loop : goal.invariant-loop
invariant-loop l = record {
  last : l.rest.last ≡ length l.settled.numbers;
  rest : IsComingStretch l.settled l.rest;
  ready : AreReadyStretches l.trace.head.version l.settled l.rest.before l.stretches.items;
}
