use Rattle.std.proofs.Common.{◌∙◌, ◌-◌, ◌++◌, ℕ, List, ap, arith, length, refl, take}
use Rattle.std.specs.List.{flat_map}
use Rattle.eve_objects.specs.Evidence.{line_object}
use Rattle.eve_tool.specs.Explain.{has_numbers, lines_behind}
use Rattle.eve_tool.proofs.ExplainedLines.{few_behind, no_more, object_more, objects_all}
use Rattle.eve_tool.proofs.explain.put_evidence.Goals as goal

pub objects-init : goal.objects-init
objects-init c = (refl, refl)

pub returns-in_default-clause-tokens : goal.returns-in_default-clause-tokens
returns-in_default-clause-tokens c =
    let x = c.args.explained.now in
    let item = line_object (has_numbers x) in
    objects_all item c.objects.writer.tokens c.args.writer.now.tokens (flat_map item (lines_behind x)) (lines_behind x)
    c.objects.i (no_more (lines_behind x) c.objects.i c.in_default.ensures) c.objects.invariant.0

pub objects-preserved : goal.objects-preserved
objects-preserved c =
    let x = c.args.explained.now in
    let item = line_object (has_numbers x) in
    let put = c.in_ok-put_line_object.ensures.tokens
    ∙ ap (λ b. c.objects.writer.tokens ++ line_object b c.words_of.result.now) c.has_numbers-numbers.ensures
    ∙ ap (λ w. c.objects.writer.tokens ++ item w)
    (c.words_of.ensures ∙ ap (λ (b : List ℕ). take (length b - 1) b) c.as_slice.ensures.value) in (
      object_more item c.objects.writer.tokens c.put_line_object.new.writer.tokens c.args.writer.now.tokens
          (flat_map item (lines_behind x)) (lines_behind x) c.objects.i _ c.in-Some.ensures put c.objects.invariant.0,
      c.in_ok-put_line_object.ensures.before ∙ c.objects.invariant.1,
    )

pub returns-clause-tokens : goal.returns-clause-tokens
returns-clause-tokens c =
    let x = c.args.explained.now in
    let item = line_object (has_numbers x) in
    objects_all item c.objects.writer.tokens c.args.writer.now.tokens (flat_map item (lines_behind x)) (lines_behind x)
    c.objects.i (omega (arith, few_behind x, c.objects-test.false)) c.objects.invariant.0
