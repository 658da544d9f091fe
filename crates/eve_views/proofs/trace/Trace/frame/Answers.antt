use Rattle.std.proofs.Common.{◌≡◌, ◌<◌, ◌^◌, ℕ, List, ◌++◌, length, vec_len, sym, ap, subst, ◌∙◌, rules, arith}
use Rattle.std.specs.Prelude.{drop}
use Rattle.eve_views.proofs.WalkSteps.{length-offsets_of}
use Rattle.eve_grammar.specs.Frames.{frames_of}
use Rattle.eve_grammar.specs.Spelling.{frame_text}
use Rattle.eve_grammar.specs.FrameOrder.{Spells}
use Rattle.eve_views.proofs.FrameLaws.{length-frame_text}
use Rattle.eve_views.proofs.TraceLaws.{part_is}
use Rattle.eve_views.proofs.trace.Trace.frame.Goals as goal

pub overflow_add-i : goal.overflow_add-i
overflow_add-i c =
    let fs = frames_of c.args.self.now in
    let items = c.self.inside.index.offsets.items in
    let count : vec_len c.self.inside.index.offsets ≡ length items = search rules in
    let small : vec_len c.self.inside.index.offsets < 2 ^ 64 = search rules in
    let total : length items ≡ length fs = ap length c.self.invariant.offsets ∙ length-offsets_of _ 32
    ∙ ap (λ t. length (frames_of t)) c.self.view_is in
    record { fits = omega (arith, count, small, total) }

pub part-requires : goal.part-requires
part-requires c =
    let spells = subst (Spells c.self.inside.bytes.now) c.self.view_is c.self.invariant.spells in
    let p = part_is c.self.inside.bytes.now c.args.self.now c.args.i c.start_of-from.result c.start_of-to.result spells
    c.requires c.start_of-from.ensures c.start_of-to.ensures in
    record { rising = p.rising; inside = p.inside }

pub returns-clause-frame : goal.returns-clause-frame
returns-clause-frame c =
    let spells = subst (Spells c.self.inside.bytes.now) c.self.view_is c.self.invariant.spells in
    let p = part_is c.self.inside.bytes.now c.args.self.now c.args.i c.start_of-from.result c.start_of-to.result spells
    c.requires c.start_of-from.ensures c.start_of-to.ensures in
    (p.frame, p.got, c.part.ensures ∙ p.text)

pub invariant_of-result : goal.invariant_of-result
invariant_of-result c =
    let spells = subst (Spells c.self.inside.bytes.now) c.self.view_is c.self.invariant.spells in
    let p = part_is c.self.inside.bytes.now c.args.self.now c.args.i c.start_of-from.result c.start_of-to.result spells
    c.requires c.start_of-from.ensures c.start_of-to.ensures in
    let size : length c.part.result.now ≡ length (frame_text p.frame) = ap length (c.part.ensures ∙ p.text) in
    record { whole = omega (arith, size, length-frame_text p.frame) }

pub returns-clause-stands : goal.returns-clause-stands
returns-clause-stands c =
    let spells = subst (Spells c.self.inside.bytes.now) c.self.view_is c.self.invariant.spells in
    let p = part_is c.self.inside.bytes.now c.args.self.now c.args.i c.start_of-from.result c.start_of-to.result spells
    c.requires c.start_of-from.ensures c.start_of-to.ensures in
    record {
      behind = p.behind;
      is = ap (drop c.start_of-from.result) (sym spells.spelled) ∙ p.cut
          ∙ ap (λ (b : List ℕ). b ++ p.behind) (sym (c.part.ensures ∙ p.text));
    }
