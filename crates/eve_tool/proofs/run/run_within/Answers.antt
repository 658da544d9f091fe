use Rattle.std.proofs.lemmas.Result.{IfErr-weaker, IfOk-weaker, on_ok_weaker}
use Rattle.eve_tool.specs.Run.{Runs}
use Rattle.eve_tool_arguments.specs.Arguments.{Run}
use Rattle.eve_tool.proofs.CutInput.{WritesAllOf-cut}
use Rattle.eve_tool.proofs.ReadInput.{Runs-cut, is_read, left_cut}
use Rattle.eve_tool.proofs.run.run_within.Goals as goal

pub returns-clause-all : goal.returns-clause-all
returns-clause-all g c =
    IfOk-weaker c.run_bytes.result _ _
    (λ status. WritesAllOf-cut (Runs c.args.limit c.args.mixer c.args.format) c.args.limit
    (g.I.Source.remaining c.args.input.now) _ (g.O.Sink.written c.args.out.now) (g.O.Sink.written c.run_bytes.new.out)
    status (Runs-cut c.args.limit c.args.mixer c.args.format) c.in_ok-bytes.ensures.bytes)
    c.run_bytes.ensures.said

pub returns-clause-left : goal.returns-clause-left
returns-clause-left g c =
    IfErr-weaker c.run_bytes.result _ _
    (left_cut c.args.limit g.O.Sink.written g.O.Sink.failures (Run c.args.mixer c.args.format)
    (g.I.Source.remaining c.args.input.now) _ _ c.args.out.now c.run_bytes.new.out
    (Runs-cut c.args.limit c.args.mixer c.args.format) c.in_ok-bytes.ensures.bytes)
    c.run_bytes.ensures.left

pub returns-clause-ended : goal.returns-clause-ended
returns-clause-ended g c =
    let read = is_read c.args.limit (g.I.Source.remaining c.args.input.now) (g.I.Source.remaining c.read_all.new.source)
    _ c.in_ok-bytes.ensures.bytes c.in_ok-bytes.ensures.rest in
    IfErr-weaker c.run_bytes.result _ _ (λ why left unread scarce. read) c.run_bytes.ensures.left

pub returns-clause-consumed : goal.returns-clause-consumed
returns-clause-consumed g c =
    let read = is_read c.args.limit (g.I.Source.remaining c.args.input.now) (g.I.Source.remaining c.read_all.new.source)
    _ c.in_ok-bytes.ensures.bytes c.in_ok-bytes.ensures.rest in
    on_ok_weaker c.run_bytes.result (λ fine. read) c.run_bytes.ensures.fine
