use Rattle.std.proofs.Common.{subst}
use Rattle.std.proofs.lemmas.Result.{IfErr-weaker, on_ok_weaker}
use Rattle.eve_tool.specs.Show.{AreLinesBefore, AreLinesOf, AreLinesTo}
use Rattle.eve_tool.proofs.UnsentText.{listing_as}
use Rattle.eve_tool.proofs.ListedLines.{counted, not_counted, sends_as}
use Rattle.eve_tool.proofs.show.send_listed.Goals as goal

pub returns-else-bytes-gt-MOST_BYTES-clause-sent : goal.returns-else-bytes-gt-MOST_BYTES-clause-sent
returns-else-bytes-gt-MOST_BYTES-clause-sent g c =
    let fault = c.args.fault.now in
    let bytes = c.args.bytes.now in
    on_ok_weaker c.send_there.result (λ sends. sends_as _ _ _
    (AreLinesBefore c.args.style fault.code bytes fault.offset)
    (λ text are. counted c.args.style fault.code bytes fault.offset text c.in-Length.is c.if-bytes-lt-HEADER_LEN.false
    c.if-bytes-gt-MOST_BYTES.false (subst (λ b. AreLinesOf c.args.style b text) c.set_total.ensures are)) sends)
    c.send_there.ensures.sent

pub returns-else-bytes-gt-MOST_BYTES-clause-stopped : goal.returns-else-bytes-gt-MOST_BYTES-clause-stopped
returns-else-bytes-gt-MOST_BYTES-clause-stopped g c =
    let fault = c.args.fault.now in
    let bytes = c.args.bytes.now in
    IfErr-weaker c.send_there.result _ _ (λ why stopped. listing_as c.args.style g.O.Sink.written g.O.Sink.failures
    (AreLinesOf c.args.style c.set_total.new.bytes) (AreLinesBefore c.args.style fault.code bytes fault.offset)
    c.args.out.now
    c.send_there.new.out
    (λ text are. counted c.args.style fault.code bytes fault.offset text c.in-Length.is c.if-bytes-lt-HEADER_LEN.false
    c.if-bytes-gt-MOST_BYTES.false (subst (λ b. AreLinesOf c.args.style b text) c.set_total.ensures are)) why stopped)
    c.send_there.ensures.stopped

pub returns-in_default-clause-sent : goal.returns-in_default-clause-sent
returns-in_default-clause-sent g c =
    let fault = c.args.fault.now in
    on_ok_weaker c.send_before.result (λ sends. sends_as _ _ _
    (AreLinesBefore c.args.style fault.code c.args.bytes.now fault.offset)
    (λ text are. not_counted c.args.style fault.code c.args.bytes.now fault.offset text c.in_default.not-Length are)
    sends)
    c.send_before.ensures.sent

pub returns-in_default-clause-stopped : goal.returns-in_default-clause-stopped
returns-in_default-clause-stopped g c =
    let fault = c.args.fault.now in
    IfErr-weaker c.send_before.result _ _ (λ why stopped. listing_as c.args.style g.O.Sink.written g.O.Sink.failures
    (AreLinesTo c.args.style fault.code c.args.bytes.now fault.offset)
    (AreLinesBefore c.args.style fault.code c.args.bytes.now fault.offset) c.args.out.now c.send_before.new.out
    (λ text are. not_counted c.args.style fault.code c.args.bytes.now fault.offset text c.in_default.not-Length are) why
    stopped)
    c.send_before.ensures.stopped
