use Rattle.std.proofs.Common.{refl}
use Rattle.std.proofs.lemmas.Result.{on_ok_weaker}
use Rattle.eve_tool.specs.Listing.{listed_lines}
use Rattle.eve_tool.specs.Show.{AreLinesTo}
use Rattle.eve_tool.specs.declared.listing.Listing.TheVariants.{Full}
use Rattle.eve_tool.proofs.ListedLines.{before}
use Rattle.eve_tool.proofs.UnsentText.{prefix_listed}
use Rattle.eve_tool.proofs.show.send_before.Goals as goal

pub returns-clause-sent : goal.returns-clause-sent
returns-clause-sent g c =
    let fault = c.args.fault.now in
    let b = before c.args.style fault.code c.args.bytes.now fault.offset c.if-at-lt-HEADER_LEN.false
    c.requires.stands.stands in
    on_ok_weaker c.send_lines.result (λ sent. record {
      text = listed_lines (Full c.args.style) b.reached.head b.reached.prefix;
      are = b.are (listed_lines (Full c.args.style) b.reached.head b.reached.prefix) refl;
      sent = sent;
    })
    (c.send_lines.ensures.sent b.reached.head b.reached.prefix b.says b.has)

pub returns-clause-stopped : goal.returns-clause-stopped
returns-clause-stopped g c =
    let fault = c.args.fault.now in
    let b = before c.args.style fault.code c.args.bytes.now fault.offset c.if-at-lt-HEADER_LEN.false
    c.requires.stands.stands in
    let text = listed_lines (Full c.args.style) b.reached.head b.reached.prefix in
    prefix_listed c.args.style g.O.Sink.written g.O.Sink.failures
    (AreLinesTo c.args.style fault.code c.args.bytes.now fault.offset) text c.args.out.now c.send_lines.new.out
    c.send_lines.result (b.are text refl)
    (c.send_lines.ensures.prefix b.reached.head b.reached.prefix b.says b.has) c.send_lines.ensures.stopped
