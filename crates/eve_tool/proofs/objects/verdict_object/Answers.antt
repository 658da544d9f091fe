use Rattle.std.proofs.Common.{◌∙◌, ◌++◌, ap}
use Rattle.std.proofs.lemmas.Result.{IfOk-weaker}
use Rattle.eve_objects.specs.Members.{object_line}
use Rattle.eve_tool.specs.Objects.{file_member, verdict_members}
use Rattle.eve_tool.proofs.objects.verdict_object.Goals as goal

pub returns : goal.returns
returns c =
    let file = file_member c.args.file in
    let verdict = verdict_members c.args.verdict.now in
    let tokens = c.in_ok-put_verdict.ensures.tokens ∙ ap (λ t. t ++ verdict)
    (c.in_ok-put_file.ensures.tokens ∙ ap (λ t. t ++ file) c.in_ok-writer.ensures.tokens) in
    let none = c.in_ok-put_verdict.ensures.before ∙ c.in_ok-put_file.ensures.before ∙ c.in_ok-writer.ensures.before
    ∙ c.new.ensures.items in
    IfOk-weaker c.end_line.result _ _ (λ line is. is ∙ ap (λ b. b ++ object_line (file ++ verdict)) none)
    (c.end_line.ensures (file ++ verdict) tokens)
