use Rattle.std.proofs.Common.{inl, inr, refl}
use Rattle.std.proofs.lemmas.Result.{IfErr-weaker, on_ok_weaker}
use Rattle.eve_grammar.specs.Frames.{frames_of}
use Rattle.eve_tool.specs.Listing.{listed_lines}
use Rattle.eve_tool.specs.Show.{AreLinesOf, AreLinesTo}
use Rattle.eve_tool.specs.declared.listing.Listing.TheVariants.{Full}
use Rattle.eve_tool.proofs.UnsentText.{listing_as, prefix_listed}
use Rattle.eve_tool.proofs.ListedLines.{sends_as, trace_has, trace_says}
use Rattle.eve_tool.proofs.show.send_there.Goals as goal

pub returns-in-Ok-clause-sent : goal.returns-in-Ok-clause-sent
returns-in-Ok-clause-sent g c =
    let t = c.in-Ok.trace in
    on_ok_weaker c.send_lines.result (λ sent. record {
      text = listed_lines (Full c.args.style) t.head (frames_of t);
      are = inl (t, c.in-Ok.ensures.trace, refl);
      sent = sent;
    })
    (c.send_lines.ensures.sent t.head (frames_of t)
    (trace_says c.bytes.result.now t c.bytes.ensures) (trace_has c.bytes.result.now t c.bytes.ensures))

pub returns-in-Ok-clause-stopped : goal.returns-in-Ok-clause-stopped
returns-in-Ok-clause-stopped g c =
    let t = c.in-Ok.trace in
    prefix_listed c.args.style g.O.Sink.written g.O.Sink.failures (AreLinesOf c.args.style c.args.bytes.now)
    (listed_lines (Full c.args.style) t.head (frames_of t)) c.args.out.now c.send_lines.new.out c.send_lines.result
    (inl (t, c.in-Ok.ensures.trace, refl))
    (c.send_lines.ensures.prefix t.head (frames_of t)
    (trace_says c.bytes.result.now t c.bytes.ensures) (trace_has c.bytes.result.now t c.bytes.ensures))
    c.send_lines.ensures.stopped

pub returns-in-Err-Found-clause-sent : goal.returns-in-Err-Found-clause-sent
returns-in-Err-Found-clause-sent g c =
    let fault = c.in-Err-Found.fault in
    on_ok_weaker c.send_before.result (λ sends. sends_as _ _ _ (AreLinesOf c.args.style c.args.bytes.now)
    (λ text are. inr (fault, rw c.in-Err-Found.field-0-is at c.in-Err-Found.ensures.least, are)) sends)
    c.send_before.ensures.sent

pub returns-in-Err-Found-clause-stopped : goal.returns-in-Err-Found-clause-stopped
returns-in-Err-Found-clause-stopped g c =
    let fault = c.in-Err-Found.fault in
    IfErr-weaker c.send_before.result _ _ (λ why stopped. listing_as c.args.style g.O.Sink.written g.O.Sink.failures
    (AreLinesTo c.args.style fault.code c.args.bytes.now fault.offset) (AreLinesOf c.args.style c.args.bytes.now)
    c.args.out.now c.send_before.new.out
    (λ text are. inr (fault, rw c.in-Err-Found.field-0-is at c.in-Err-Found.ensures.least, are)) why stopped)
    c.send_before.ensures.stopped
