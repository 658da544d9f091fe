use Rattle.std.proofs.Common.{◌∙◌, arith}
use Rattle.eve_tool.specs.Explain.{lines_behind}
use Rattle.eve_tool.proofs.ExplainedLines.{few_behind, sends_all, sends_line, stops_at}
use Rattle.eve_tool.proofs.ListedLines.{at_any_err}
use Rattle.eve_tool.proofs.explain.send_reasons.Goals as goal

pub returns-in_err-send_all-clause-prefix : goal.returns-in_err-send_all-clause-prefix
returns-in_err-send_all-clause-prefix g c =
    at_any_err c.from_residual.result
    (stops_at _ _ _ (lines_behind c.args.explained.now) c.lines.i _ _ c.as_slice.ensures.value c.in-Some.ensures
    c.lines.invariant.0 c.in_err-send_all.ensures.prefix)

pub lines-preserved : goal.lines-preserved
lines-preserved g c = (
  sends_line _ _ _ (lines_behind c.args.explained.now) c.lines.i _ _ c.as_slice.ensures.value c.in-Some.ensures
      c.lines.invariant.0 c.in_ok-send_all.ensures.sent,
  c.in_ok-send_all.ensures.fine ∙ c.lines.invariant.1,
)

pub returns-clause-sent : goal.returns-clause-sent
returns-clause-sent g c =
    sends_all _ _ (lines_behind c.args.explained.now) c.lines.i
    (omega (arith, few_behind c.args.explained.now, c.lines-test.false)) c.lines.invariant.0
