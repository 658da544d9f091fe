use Rattle.std.proofs.lemmas.Result.{IfErr-weaker, IfOk-weaker, on_ok_weaker}
use Rattle.eve_grammar.specs.declared.limits.TheConstants.{MOST_BYTES}
use Rattle.eve_tool.specs.Calls.{CallSays}
use Rattle.eve_tool_arguments.specs.Arguments.{subcommand_of_call}
use Rattle.eve_tool.proofs.CutInput.{WritesAllOf-cut}
use Rattle.eve_tool.proofs.ReadInput.{is_read, left_cut, says_cut}
use Rattle.eve_tool.proofs.program.answer_call.Goals as goal

pub returns-clause-said : goal.returns-clause-said
returns-clause-said g c =
    let call = subcommand_of_call c.args.call in
    IfOk-weaker c.answer_bytes.result _ _
    (λ status. WritesAllOf-cut (CallSays MOST_BYTES call) MOST_BYTES (g.I.Source.remaining c.args.input.now) _
    (g.O.Sink.written c.args.out.now) (g.O.Sink.written c.answer_bytes.new.out) status (says_cut call)
    c.in_ok-bytes.ensures.bytes)
    c.answer_bytes.ensures.said

pub returns-clause-left : goal.returns-clause-left
returns-clause-left g c =
    let call = subcommand_of_call c.args.call in
    IfErr-weaker c.answer_bytes.result _ _
    (left_cut MOST_BYTES g.O.Sink.written g.O.Sink.failures call (g.I.Source.remaining c.args.input.now) _ _
    c.args.out.now c.answer_bytes.new.out (says_cut call) c.in_ok-bytes.ensures.bytes)
    c.answer_bytes.ensures.left

pub returns-clause-ended : goal.returns-clause-ended
returns-clause-ended g c =
    let read = is_read MOST_BYTES (g.I.Source.remaining c.args.input.now) (g.I.Source.remaining c.read_all.new.source) _
    c.in_ok-bytes.ensures.bytes c.in_ok-bytes.ensures.rest in
    IfErr-weaker c.answer_bytes.result _ _ (λ why left unread scarce. read) c.answer_bytes.ensures.left

pub returns-clause-consumed : goal.returns-clause-consumed
returns-clause-consumed g c =
    let read = is_read MOST_BYTES (g.I.Source.remaining c.args.input.now) (g.I.Source.remaining c.read_all.new.source) _
    c.in_ok-bytes.ensures.bytes c.in_ok-bytes.ensures.rest in
    on_ok_weaker c.answer_bytes.result (λ fine. read) c.answer_bytes.ensures.fine
