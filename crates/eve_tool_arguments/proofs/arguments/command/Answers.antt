-- Each subcommand comes to the program as its shape, which has no global argument.
use Rattle.std.proofs.Common.{◌≡◌, ◌∙◌, ap, ap₂}
use Rattle.std.proofs.lemmas.Result.{IfOk-weaker}
use Rattle.clap.specs.Words.{Shape, app_of, with_subcommand}
use Rattle.eve_tool_arguments.specs.Arguments.{audit, eve, explain, program, run_shape}
use Rattle.eve_tool_arguments.proofs.CommandLine.{is_local}
use Rattle.eve_tool_arguments.proofs.arguments.command.Goals as goal

pub returns : goal.returns
returns c =
    let plain = λ (s : Shape). s.is_plain in
    let audits : app_of c.in-Ok-subcommand.audits ≡ with_subcommand program audit =
    c.in-Ok-subcommand.ensures.shape (is_local _ _ _ _ (ap plain c.in-Ok.ensures))
    ∙ ap₂ with_subcommand c.program.ensures c.in-Ok.ensures in
    let explains : app_of c.in-Ok-subcommand-2.explains ≡ with_subcommand (with_subcommand program audit) explain =
    c.in-Ok-subcommand-2.ensures.shape (is_local _ _ _ _ (ap plain c.in-Ok-explain_command.ensures))
    ∙ ap₂ with_subcommand audits c.in-Ok-explain_command.ensures in
    let runs : app_of c.in-Ok-subcommand-3.runs
    ≡ with_subcommand (with_subcommand (with_subcommand program audit) explain) run_shape =
    c.in-Ok-subcommand-3.ensures.shape (is_local _ _ _ _ (ap plain c.in-Ok-run_command.ensures))
    ∙ ap₂ with_subcommand explains c.in-Ok-run_command.ensures in
    IfOk-weaker c.subcommand-4.result _ (λ command. app_of command ≡ eve)
    (λ command adds. adds.shape (is_local _ _ _ _ (ap plain c.in-Ok-show_command.ensures))
    ∙ ap₂ with_subcommand runs c.in-Ok-show_command.ensures)
    c.subcommand-4.ensures
