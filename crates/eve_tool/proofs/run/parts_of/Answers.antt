use Rattle.std.proofs.Common.{rules, sym, subst}
use Rattle.eve_tool.specs.declared.fault.ToolFault.{ToolFault}
use Rattle.eve_tool.specs.Run.{IsText, StopsRun}
use Rattle.eve_tool.proofs.RunText.{ended_stops}
use Rattle.eve_tool.proofs.run.parts_of.Goals as goal

pub returns-in-Err-clause-stopped : goal.returns-in-Err-clause-stopped
returns-in-Err-clause-stopped g c =
    let mixer = c.args.options.mixer in
    let format = c.args.options.format in
    let typed : IsText format c.args.bytes.items c.in_ok-workload.workload = search rules in
    subst (λ (e : ToolFault). StopsRun mixer format c.args.bytes.items e) (sym c.from.ensures)
    (ended_stops mixer format c.args.bytes.items c.in-Err.why
    (record { workload = c.in_ok-workload.workload; typed = typed; ends = c.in-Err.ensures.so_far }))

-- Written, so that a wrong body fails soon.
pub returns-in_err-random-clause-stopped : goal.returns-in_err-random-clause-stopped
returns-in_err-random-clause-stopped g c = search rules
