use Rattle.std.proofs.Common.{Bool, [], ◌∷◌, ◌++◌, length, length-set, take, map, sym, ap, ◌∙◌, ◌<◌, arith}
use Rattle.std.proofs.lemmas.List.{take_all, map-append, take_more_set}
use Rattle.eve_grammar.specs.Frames.{is_allowed}
use Rattle.eve_grammar.specs.Kinds.{kind_byte}
use Rattle.eve_grammar.specs.declared.frame_kind.FrameKind.{FrameKind}
use Rattle.eve_grammar.proofs.Lists.{take_one_more}
use Rattle.eve_evidence_form.proofs.due.due_kinds.Goals as goal

pub loop-i-preserved : goal.loop-i-preserved
loop-i-preserved c =
    let test : FrameKind → Bool = λ k. is_allowed c.args.reached.now.head c.args.reached.now.place (kind_byte k) in
    let kinds = c.frame_kinds-kinds.result in
    let kind = c.item_at.result in
    let due = c.loop-i.due in
    let room : c.loop-i.i < length due = omega arith in (
      length-set due c.loop-i.i c.allows.result ∙ c.loop-i.invariant.0,
      take_more_set due c.loop-i.i c.allows.result room
          ∙ (λ i. c.loop-i.invariant.1 i ++ c.allows.ensures i ∷ [])
          ∙ sym (ap (map test) (take_one_more kinds c.loop-i.i kind c.item_at.ensures)
          ∙ map-append test (take c.loop-i.i kinds) (kind ∷ [])),
    )

pub returns : goal.returns
returns c =
    let test : FrameKind → Bool = λ k. is_allowed c.args.reached.now.head c.args.reached.now.place (kind_byte k) in
    let kinds = take_all c.loop-i.i c.frame_kinds-kinds.result
    (omega (arith, c.loop-i-test.false, ap length c.frame_kinds-kinds.ensures)) in
    let due = take_all c.loop-i.i c.loop-i.due
    (omega (arith, c.loop-i-test.false, ap length c.frame_kinds-kinds.ensures, c.loop-i.invariant.0)) in
    sym due ∙ c.loop-i.invariant.1 ∙ ap (map test) (kinds ∙ c.frame_kinds-kinds.ensures)
