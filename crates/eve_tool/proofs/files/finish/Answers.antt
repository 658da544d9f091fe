use Rattle.std.proofs.Common.{◌∙◌, ap, subst}
use Rattle.eve_tool.specs.Calls.{Tells}
use Rattle.eve_tool.specs.Fault.{status_of}
use Rattle.eve_tool.specs.declared.fault.ToolFault.{ToolFault}
use Rattle.eve_tool.proofs.files.finish.Goals as goal

pub returns-in-Err-clause-failed : goal.returns-in-Err-clause-failed
returns-in-Err-clause-failed g c = λ less two. record {
  kept = c.in-Err.ensures.kept;
  held = c.in-Err.ensures.held;
  failed = c.in-Err.ensures.failed;
  tells = subst (λ (w : ToolFault). Tells g.E.Sink.written g.E.Sink.failures c.args.err.now c.stop.new.err w)
      c.in-Err.ensures.why c.stop.ensures.told;
  ends = c.stop.ensures.status ∙ ap status_of c.in-Err.ensures.why;
}
