use Rattle.std.proofs.Common.{inl, inr, refl}
use Rattle.eve_grammar.specs.Frames.{frames_of}
use Rattle.eve_tool.specs.Lines.{fault_line}
use Rattle.eve_tool.specs.Listing.{listed_lines}
use Rattle.eve_tool.specs.declared.listing.Listing.TheVariants.{Short}
use Rattle.eve_tool_arguments.specs.Arguments.{Show}
use Rattle.eve_tool.proofs.ListedLines.{trace_has, trace_says}
use Rattle.eve_tool.proofs.UnsentText.{at_err, fails_fine, lines_left, sent_left}
use Rattle.eve_tool.proofs.show.show.Goals as goal

pub returns-in_err-send_lines-in-Ok-clause-left : goal.returns-in_err-send_lines-in-Ok-clause-left
returns-in_err-send_lines-in-Ok-clause-left g c =
    let t = c.in-Ok.trace in
    let why = c.in_err-send_lines-in-Ok.field-0.0 in
    let prefix = c.in_err-send_lines-in-Ok.ensures.prefix t.head (frames_of t)
    (trace_says c.bytes.result.now t c.bytes.ensures) (trace_has c.bytes.result.now t c.bytes.ensures) in
    at_err c.from_residual.result _ why c.from_residual.ensures.1
    (lines_left Short g.O.Sink.written g.O.Sink.failures Show c.args.bytes.now (listed_lines Short t.head (frames_of t))
    0 c.args.out.now c.send_lines.new.out
    (inl (record { trace = t; spelled = c.in-Ok.ensures.trace; lines = refl }, refl)) prefix (λ made. absurd made) why
    c.in_err-send_lines-in-Ok.ensures.stopped)

pub returns-in_err-send_lines-in-Ok-clause-wrote : goal.returns-in_err-send_lines-in-Ok-clause-wrote
returns-in_err-send_lines-in-Ok-clause-wrote g c =
    let why = c.in_err-send_lines-in-Ok.field-0.0 in
    at_err c.from_residual.result _ why c.from_residual.ensures.1
    (fails_fine Short g.O.Sink.failures c.args.out.now c.send_lines.new.out why
    c.in_err-send_lines-in-Ok.ensures.stopped)

pub returns-in_ok-send_lines-in-Ok-clause-said : goal.returns-in_ok-send_lines-in-Ok-clause-said
returns-in_ok-send_lines-in-Ok-clause-said g c =
    let t = c.in-Ok.trace in record {
      text = listed_lines Short t.head (frames_of t);
      said = inl (record { trace = t; spelled = c.in-Ok.ensures.trace; lines = refl }, refl);
      written = c.in_ok-send_lines-in-Ok.ensures.sent t.head (frames_of t)
          (trace_says c.bytes.result.now t c.bytes.ensures) (trace_has c.bytes.result.now t c.bytes.ensures);
    }

pub returns-in_err-status-in-Err-Found-clause-left : goal.returns-in_err-status-in-Err-Found-clause-left
returns-in_err-status-in-Err-Found-clause-left g c =
    let why = c.in_err-status-in-Err-Found.field-0.0 in
    at_err c.from_residual-in_err-status-in-Err-Found.result _ why
    c.from_residual-in_err-status-in-Err-Found.ensures.1
    (sent_left g.O.Sink.written g.O.Sink.failures Show c.args.bytes.now (fault_line c.in-Err-Found.fault) 1
    c.args.out.now c.send_verdict.new.out
    (inr (
      record {
        fault = c.in-Err-Found.fault;
        least = rw c.in-Err-Found.field-0-is at c.in-Err-Found.ensures.least;
        line = refl;
      },
      refl,
    ))
    why c.in_err-status-in-Err-Found.ensures.stopped)
