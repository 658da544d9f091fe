use Rattle.std.proofs.Common.{take}
use Rattle.std.specs.List.{flat_map}
use Rattle.eve_grammar.specs.Spelling.{batches_at}
use Rattle.eve_evidence_form.specs.Requests.{requests_listed, LeavesUnasked}
use Rattle.eve_evidence_form.proofs.requests.take_out_before.Given as goal

abbrev pub invariant-loop-i : goal.invariant-loop-i
invariant-loop-i l = LeavesUnasked l.fn.ids (flat_map requests_listed (take l.i (batches_at l.trace))) l.ids
