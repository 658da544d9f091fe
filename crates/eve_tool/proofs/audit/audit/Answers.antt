use Rattle.eve_tool.specs.Audit.{verdict_text}
use Rattle.eve_tool.specs.Lines.{status_of_verdict}
use Rattle.eve_tool_arguments.specs.Arguments.{Audit}
use Rattle.std.proofs.Common.{Some, refl}
use Rattle.eve_tool.proofs.Judging.{audits_as, unjudged_left}
use Rattle.eve_tool.proofs.UnsentText.{at_err, sent_left}
use Rattle.eve_tool.proofs.audit.audit.Goals as goal

pub returns-in_err-verdict-clause-left : goal.returns-in_err-verdict-clause-left
returns-in_err-verdict-clause-left g c =
    let why = c.in_err-verdict.field-0.0 in
    at_err c.from_residual.result _ why c.from_residual.ensures.1
    (unjudged_left g.O.Sink.written g.O.Sink.failures c.args.options.now.style (Some c.args.bytes.now) ⊥ c.args.out.now
    why c.in_err-verdict.ensures.stopped)

pub returns-in_err-status-clause-left : goal.returns-in_err-status-clause-left
returns-in_err-status-clause-left g c =
    let style = c.args.options.now.style in
    let verdict = c.in_ok-verdict.verdict in
    let status = status_of_verdict verdict in
    let why = c.in_err-status.field-0.0 in
    at_err c.from_residual-in_err-status.result _ why c.from_residual-in_err-status.ensures.1
    (sent_left g.O.Sink.written g.O.Sink.failures (Audit style) c.args.bytes.now (verdict_text style verdict) status
    c.args.out.now c.send_verdict.new.out
    (audits_as (verdict_text style) c.args.bytes.now verdict status c.in_ok-verdict.ensures.verdict refl) why
    c.in_err-status.ensures.stopped)

pub returns-clause-said : goal.returns-clause-said
returns-clause-said g c =
    let style = c.args.options.now.style in
    let verdict = c.in_ok-verdict.verdict in record {
      text = verdict_text style verdict;
      said = audits_as (verdict_text style) c.args.bytes.now verdict c.in_ok-status.status
          c.in_ok-verdict.ensures.verdict c.in_ok-status.ensures.status;
      written = c.in_ok-status.ensures.sent;
    }
