use Rattle.std.proofs.Common.{inl, inr, refl}
use Rattle.eve_audit.specs.declared.verdict.Verdict.TheVariants.{No}
use Rattle.eve_grammar.specs.Frames.{frames_of}
use Rattle.eve_tool.specs.Audit.{verdict_text}
use Rattle.eve_tool.specs.Listing.{listed_lines}
use Rattle.eve_tool.specs.Show.{AreLinesBefore}
use Rattle.eve_tool.specs.declared.listing.Listing.TheVariants.{Full}
use Rattle.eve_tool_arguments.specs.Arguments.{ShowLong}
use Rattle.eve_tool.proofs.UnsentText.{at_err, fails_fine, lines_left, long_fine, long_stopped}
use Rattle.eve_tool.proofs.ListedLines.{trace_has, trace_says}
use Rattle.eve_tool.proofs.show.show_long.Goals as goal

pub returns-in_err-send_lines-in-Ok-clause-left : goal.returns-in_err-send_lines-in-Ok-clause-left
returns-in_err-send_lines-in-Ok-clause-left g c =
    let t = c.in-Ok.trace in
    let why = c.in_err-send_lines-in-Ok.field-0.0 in
    let prefix = c.in_err-send_lines-in-Ok.ensures.prefix t.head (frames_of t)
    (trace_says c.bytes.result.now t c.bytes.ensures) (trace_has c.bytes.result.now t c.bytes.ensures) in
    at_err c.from_residual.result _ why c.from_residual.ensures.1
    (lines_left (Full c.args.style) g.O.Sink.written g.O.Sink.failures (ShowLong c.args.style) c.args.bytes.now
    (listed_lines (Full c.args.style) t.head (frames_of t)) 0 c.args.out.now c.send_lines.new.out
    (inl (record { trace = t; spelled = c.in-Ok.ensures.trace; lines = refl }, refl)) prefix (λ made. made) why
    c.in_err-send_lines-in-Ok.ensures.stopped)

pub returns-in_err-send_lines-in-Ok-clause-wrote : goal.returns-in_err-send_lines-in-Ok-clause-wrote
returns-in_err-send_lines-in-Ok-clause-wrote g c =
    let why = c.in_err-send_lines-in-Ok.field-0.0 in
    at_err c.from_residual.result _ why c.from_residual.ensures.1
    (fails_fine (Full c.args.style) g.O.Sink.failures c.args.out.now c.send_lines.new.out why
    c.in_err-send_lines-in-Ok.ensures.stopped)

pub returns-in-Ok-clause-said : goal.returns-in-Ok-clause-said
returns-in-Ok-clause-said g c =
    let t = c.in-Ok.trace in record {
      text = listed_lines (Full c.args.style) t.head (frames_of t);
      said = inl (record { trace = t; spelled = c.in-Ok.ensures.trace; lines = refl }, refl);
      written = c.in_ok-send_lines-in-Ok.ensures.sent t.head (frames_of t)
          (trace_says c.bytes.result.now t c.bytes.ensures) (trace_has c.bytes.result.now t c.bytes.ensures);
    }

pub returns-in_err-send_faulty-clause-left : goal.returns-in_err-send_faulty-clause-left
returns-in_err-send_faulty-clause-left g c =
    let why = c.in_err-send_faulty.field-0.0 in
    let fault = c.in-Err-Found.fault in
    at_err c.from_residual-in_err-send_faulty.result _ why c.from_residual-in_err-send_faulty.ensures.1
    (long_stopped c.args.style g.O.Sink.written g.O.Sink.failures c.args.bytes.now
    (AreLinesBefore c.args.style fault.code c.args.bytes.now fault.offset) (verdict_text c.args.style (No fault))
    c.args.out.now c.send_faulty.new.out
    (λ before are. inr (
      record {
        fault = fault;
        least = rw c.in-Err-Found.field-0-is at c.in-Err-Found.ensures.least;
        before = before;
        lines = are;
        is = refl;
      },
      refl,
    ))
    why c.in_err-send_faulty.ensures.stopped)

pub returns-in_err-send_faulty-clause-wrote : goal.returns-in_err-send_faulty-clause-wrote
returns-in_err-send_faulty-clause-wrote g c =
    let why = c.in_err-send_faulty.field-0.0 in
    let fault = c.in-Err-Found.fault in
    at_err c.from_residual-in_err-send_faulty.result _ why c.from_residual-in_err-send_faulty.ensures.1
    (long_fine c.args.style g.O.Sink.written g.O.Sink.failures
    (AreLinesBefore c.args.style fault.code c.args.bytes.now fault.offset) (verdict_text c.args.style (No fault))
    c.args.out.now c.send_faulty.new.out why c.in_err-send_faulty.ensures.stopped)
