use Rattle.std.proofs.Common.{rules, arith, ap, Err, inl, refl, ◌≤◌, ◌^◌, length}
use Rattle.eve_grammar.specs.Spelling.{spelling}
use Rattle.eve_write.specs.Data.{trace}
use Rattle.eve_tool.proofs.UnsentText.{at_err}
use Rattle.eve_tool.proofs.RunText.{runs_of, unrun_left, unsent_left}
use Rattle.eve_tool.proofs.run.run_bytes.Goals as goal

pub returns-then-is_long-clause-left : goal.returns-then-is_long-clause-left
returns-then-is_long-clause-left g c = (inl (omega arith), refl)

pub returns-in_err-parts-clause-left : goal.returns-in_err-parts-clause-left
returns-in_err-parts-clause-left g c =
    let asked = c.args.options in
    let why = c.in_err-parts.field-0.0 in
    let short : length c.args.bytes.items ≤ asked.limit = omega arith in
    at_err c.from_residual.result _ why c.from_residual.ensures.1
    (unrun_left g.O.Sink.written g.O.Sink.failures asked.limit asked.mixer asked.format c.args.bytes.items
    c.args.out.now why short c.in_err-parts.ensures.stopped)

pub returns-in_err-send_trace-clause-left : goal.returns-in_err-send_trace-clause-left
returns-in_err-send_trace-clause-left g c =
    let asked = c.args.options in
    let why = c.in_err-send_trace.field-0.0 in
    let told = c.in_err-send_trace.ensures in
    let short : length c.args.bytes.items ≤ asked.limit = omega arith in
    let few : asked.limit ≤ 2 ^ 30 = omega arith in
    at_err c.from_residual-in_err-send_trace.result _ why c.from_residual-in_err-send_trace.ensures.1
    (unsent_left g.O.Sink.written g.O.Sink.failures asked.limit asked.mixer asked.format c.args.bytes.items
    c.in_ok-parts.parts c.args.out.now c.send_trace.new.out why short few c.in_ok-parts.ensures.run
    (λ is. told.long (ap Err is)) (λ is. told.stopped (ap Err is)) told.why)

pub returns-clause-said : goal.returns-clause-said
returns-clause-said g c =
    let asked = c.args.options in
    let parts = c.in_ok-parts.parts in
    let sent = c.in_ok-send_trace.ensures.sent in
    let short : length c.args.bytes.items ≤ asked.limit = omega arith in
    let few : asked.limit ≤ 2 ^ 30 = omega arith in
    record {
      text = spelling (trace parts);
      said = runs_of asked.limit asked.mixer asked.format c.args.bytes.items parts short few
          c.in_ok-parts.ensures.run sent.0;
      written = sent.1.sent;
    }

-- Written, so that a wrong body fails soon.
pub returns-clause-fine : goal.returns-clause-fine
returns-clause-fine g c = search rules
