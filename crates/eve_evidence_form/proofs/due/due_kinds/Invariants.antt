use Rattle.std.proofs.Common.{◌≡◌, take, map, length}
use Rattle.eve_grammar.specs.Frames.{is_allowed}
use Rattle.eve_grammar.specs.Kinds.{kind_byte}
use Rattle.eve_evidence_form.proofs.due.due_kinds.Given as goal

abbrev pub invariant-loop-i : goal.invariant-loop-i
invariant-loop-i l = (length l.due ≡ 12)
    × (take l.i l.due ≡ map (λ k. is_allowed l.reached.head l.reached.place (kind_byte k)) (take l.i l.kinds))
