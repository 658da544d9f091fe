use Rattle.std.proofs.Common.{◌≡◌, ◌∙◌, ℕ, List, Option, arith, sym}
use Rattle.eve_grammar.specs.declared.limits.TheConstants.{MOST_BYTES}
use Rattle.eve_tool.specs.Calls.{Leaves}
use Rattle.eve_tool.specs.Fault.{status_of}
use Rattle.eve_tool.specs.declared.fault.ToolFault.{ToolFault}
use Rattle.eve_tool.specs.declared.fault.ToolFault.TheVariants as fault
use Rattle.eve_tool_arguments.specs.Arguments.{Subcommand}
use Rattle.eve_tool.proofs.program.serve_call.Goals as goal

-- where the input is at fault nothing was sent
unsent : {O : Type 0} (written : O → Option (List ℕ)) (failures : O → ℕ) (call : Subcommand) (known : Option (List ℕ))
    (failed : Type 0) (old new : O) (why : ToolFault)
    → Leaves MOST_BYTES written failures call known failed old new why → status_of why ≡ 2 → new ≡ old
unsent written failures call known failed old new fault.Memory left two = absurd (omega (arith, two))
unsent written failures call known failed old new fault.Write left two = absurd (omega (arith, two))
unsent written failures call known failed old new _ left two = left.1

pub returns-in-Err-clause-silent : goal.returns-in-Err-clause-silent
returns-in-Err-clause-silent g c = λ two.
    unsent g.O.Sink.written g.O.Sink.failures _ _ _ c.args.out.now c.answer_call.new.out c.in-Err.why
    c.in-Err.ensures.left (sym c.stop.ensures.status ∙ two)
