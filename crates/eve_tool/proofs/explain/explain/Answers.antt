use Rattle.std.proofs.Common.{refl}
use Rattle.eve_explain.specs.Explained.{verdict_in}
use Rattle.eve_tool.specs.Explain.{explained_text}
use Rattle.eve_tool.specs.Lines.{status_of_verdict}
use Rattle.eve_tool_arguments.specs.Arguments.{Explain}
use Rattle.eve_tool.proofs.ExplainedLines.{explains-of}
use Rattle.eve_tool.proofs.UnsentText.{at_err, sent_left}
use Rattle.eve_tool.proofs.explain.explain.Goals as goal

pub returns-in_err-status-clause-left : goal.returns-in_err-status-clause-left
returns-in_err-status-clause-left g c =
    let bytes = c.args.bytes.now in
    let style = c.args.options.now.style in
    let x = c.in-Ok.explained in
    let status = status_of_verdict (verdict_in x) in
    let why = c.in_err-status.field-0.0 in
    let said = explains-of style bytes x status refl c.in-Ok.ensures.verdict c.in-Ok.ensures.yes
    c.in-Ok.ensures.explained c.requires.read in
    at_err c.from_residual-in_err-status.result _ why c.from_residual-in_err-status.ensures.1
    (sent_left g.O.Sink.written g.O.Sink.failures (Explain style) bytes (explained_text style x) status c.args.out.now
    c.send_explained.new.out said why c.in_err-status.ensures.stopped)

pub returns-clause-said : goal.returns-clause-said
returns-clause-said g c =
    let bytes = c.args.bytes.now in
    let x = c.in-Ok.explained in record {
      text = explained_text c.args.options.now.style x;
      said = explains-of c.args.options.now.style bytes x c.in_ok-status.status c.in_ok-status.ensures.status
          c.in-Ok.ensures.verdict c.in-Ok.ensures.yes c.in-Ok.ensures.explained c.requires.read;
      written = c.in_ok-status.ensures.sent;
    }
