use Rattle.std.proofs.Common.{sym}
use Rattle.eve_tool.specs.declared.fault.ToolFault.TheVariants.{Write}
use Rattle.eve_tool.proofs.program.serve_help.Goals as goal

pub returns-in-Err-clause-unhelped : goal.returns-in-Err-clause-unhelped
returns-in-Err-clause-unhelped g c = λ two. (
  c.stop.ensures.status,
  record {
    why = Write;
    ends = sym c.stop.ensures.status;
    left = c.in-Err.ensures.counted;
    line = c.stop.ensures.told;
  },
)
