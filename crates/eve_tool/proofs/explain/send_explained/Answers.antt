use Rattle.std.proofs.Common.{subst, sym}
use Rattle.std.specs.Io.KnownBytes.{Appends}
use Rattle.eve_audit.specs.declared.verdict.Verdict.{Verdict}
use Rattle.eve_write.specs.Writes.{Stopped}
use Rattle.eve_tool.specs.Explain.{explained_text, text_behind}
use Rattle.eve_tool.specs.Lines.{verdict_line}
use Rattle.eve_tool.specs.declared.fault.ToolFault.TheVariants.{Write}
use Rattle.eve_tool_arguments.specs.declared.style.Style.{Style}
use Rattle.eve_tool.proofs.ExplainedLines.{stops_behind}
use Rattle.eve_tool.proofs.UnsentText.{at_err}
use Rattle.eve_tool.proofs.explain.send_explained.Goals as goal

pub returns-in_err-send_reasons-in-Plain-clause-stopped : goal.returns-in_err-send_reasons-in-Plain-clause-stopped
returns-in_err-send_reasons-in-Plain-clause-stopped g c =
    let x = c.args.explained.now in
    let sent = subst (λ (v : Verdict). Appends (g.O.Sink.written c.args.out.now)
    (g.O.Sink.written c.send_verdict.new.out) (verdict_line v)) c.verdict.ensures
    c.in_ok-status-in-Plain.ensures.sent in
    at_err c.from_residual-in_err-send_reasons-in-Plain.result _ Write
    c.from_residual-in_err-send_reasons-in-Plain.ensures.1
    (subst (λ (s : Style). Stopped g.O.Sink.written g.O.Sink.failures c.args.out.now c.send_reasons.new.out
    (explained_text s x)) (sym c.in-Plain.is)
    (stops_behind g.O.Sink.written g.O.Sink.failures c.args.out.now c.send_verdict.new.out c.send_reasons.new.out _
    (text_behind x) sent c.in_ok-status-in-Plain.ensures.fine c.in_err-send_reasons-in-Plain.ensures.prefix
    c.in_err-send_reasons-in-Plain.ensures.counted))
