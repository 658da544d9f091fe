use Rattle.std.proofs.Common.{◌≡◌, Option, Some, None, sym, ◌∙◌}
use Rattle.std.proofs.lemmas.Option.{same_Some}
use Rattle.eve_grammar.specs.Readers.{header_of}
use Rattle.eve_grammar.specs.declared.head.Head.{Head}
use Rattle.eve_views.specs.Form.{head_bytes}
use Rattle.eve_evidence_form.proofs.FramesPassed.{head_again}
use Rattle.eve_evidence_form.proofs.walk.head_decoded.Goals as goal

some_none : (o : Option Head) (h : Head) → o ≡ Some h → o ≡ None → ⊥
some_none (Some g) h e n = cc
some_none None h e n = cc

pub unreachable-requires : goal.unreachable-requires
unreachable-requires c =
    some_none (header_of (head_bytes c.args.bytes.now)) c.requires.says.0
    (head_again c.args.bytes.now c.requires.says.0 c.requires.says.1) c.in-None.ensures

pub returns : goal.returns
returns c = λ h says.
    same_Some c.in-Some.head h (sym c.in-Some.ensures ∙ head_again c.args.bytes.now h says)
