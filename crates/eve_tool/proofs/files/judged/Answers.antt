use Rattle.eve_tool.proofs.Judging.{judged, stops_on_input}
use Rattle.eve_tool.proofs.SentFiles.{named_as}
use Rattle.eve_tool.proofs.UnsentText.{at_err}
use Rattle.eve_tool.proofs.files.judged.Goals as goal

pub returns-in_err-verdict-clause-stopped : goal.returns-in_err-verdict-clause-stopped
returns-in_err-verdict-clause-stopped g c =
    let why = c.in_err-verdict.field-0.0 in
    at_err c.from_residual-in_err-verdict.result _ why c.from_residual-in_err-verdict.ensures.1
    (stops_on_input _ why c.in_err-verdict.ensures.stopped)

pub returns-clause-said : goal.returns-clause-said
returns-clause-said g c =
    let known = g.I.Source.remaining c.args.input.now in
    let verdict = c.in_ok-verdict.verdict in
    named_as c.args.options.now.style c.args.name.now known verdict _ _
    (judged known c.as_slice.result.now _ verdict c.as_slice.ensures.value c.in_ok-bytes.ensures.bytes
    c.in_ok-verdict.ensures.verdict)
    c.in_ok-line.ensures c.status_of.ensures
