use Rattle.std.proofs.Common.{◌∙◌, ◌∷◌, ◌++◌, List, [], ap, codes}
use Rattle.std.proofs.lemmas.Result.{IfOk-weaker}
use Rattle.std.specs.List.{flat_map}
use Rattle.json.specs.Token.{Token, begin_array, begin_object, end_array, key}
use Rattle.eve_audit.specs.declared.verdict.Verdict.{Verdict}
use Rattle.eve_explain.specs.Explained.{verdict_in}
use Rattle.eve_objects.specs.Evidence.{line_object}
use Rattle.eve_objects.specs.Members.{array_member, object_line}
use Rattle.eve_tool.specs.Explain.{has_numbers, lines_behind}
use Rattle.eve_tool.specs.Objects.{verdict_members}
use Rattle.eve_tool.proofs.ExplainedLines.{array_behind}
use Rattle.eve_tool.proofs.explain.explained_object.Goals as goal

pub returns : goal.returns
unfolding array_member
returns c =
    let x = c.args.explained.now in
    let items : List Token = flat_map (line_object (has_numbers x)) (lines_behind x) in
    let verdict : List Token = verdict_members (verdict_in x) in
    let members : List Token = verdict ++ array_member (codes "evidence") items in
    let first = c.in_ok-put_verdict.ensures.tokens
    ∙ ap (λ (v : Verdict). c.in_ok-writer.writer.tokens ++ verdict_members v) c.verdict.ensures
    ∙ ap (λ (t : List Token). t ++ verdict) c.in_ok-writer.ensures.tokens in
    let begun = c.in_ok-begin_array.ensures.ok ∙ ap (λ (t : List Token). t ++ begin_array ∷ [])
    (c.in_ok-key.ensures.ok ∙ ap (λ (t : List Token). t ++ key (codes "evidence") ∷ []) first) in
    let ended = c.in_ok-end_array.ensures.ok ∙ ap (λ (t : List Token). t ++ end_array ∷ [])
    (c.in_ok-put_evidence.ensures.tokens ∙ ap (λ (t : List Token). t ++ items) begun)
    ∙ ap (λ (t : List Token). begin_object ∷ t)
    (array_behind verdict items (key (codes "evidence")) begin_array end_array) in
    let none = c.in_ok-end_array.ensures.room.0 ∙ c.in_ok-put_evidence.ensures.before
    ∙ c.in_ok-begin_array.ensures.room.0 ∙ c.in_ok-key.ensures.room.0 ∙ c.in_ok-put_verdict.ensures.before
    ∙ c.in_ok-writer.ensures.before ∙ c.new.ensures.items in
    IfOk-weaker c.end_line.result _ _ (λ line is. is ∙ ap (λ b. b ++ object_line members) none)
    (c.end_line.ensures members ended)
